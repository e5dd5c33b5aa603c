-- `cut::cut_links`: what it prints is what `cut` prints for the bytes that it read: each turn carries the cutting on. The windows lie within their
-- buffers, and their refills have moved no more bytes than they have read; no more packets are handed up than turns were taken.
use Rattle.std.proofs.Common.{◌≤◌, ◌≡◌, false, length}
use Rattle.recording.specs.Progress.{Lies}
use Rattle.recording.specs.Whole.{Cutting, BothMovedNoMore}
use Rattle.cut.proofs.cut_links.Given as goal

abbrev pub invariant-loop : goal.invariant-loop
invariant-loop g l = record {
  lies : Lies l.progress (length l.normal) (length l.redundant);
  handed_up : l.progress.handed_up ≤ l.counter;
  goes : l.progress.last ≡ false;
  cutting : Cutting l.told.callers.now l.told.ours l.told.state l.normal l.redundant l.progress l.out.items;
  moved : BothMovedNoMore l.progress (length l.normal) (length l.redundant);
}
