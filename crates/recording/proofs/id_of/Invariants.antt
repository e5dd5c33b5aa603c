-- `recording::id_of` meets its contract: after so many digits the id is their number, below 16 ^ that, and the digits left decide.
-- Assumes nothing.
use Rattle.std.proofs.Common.{◌≡◌, ◌^◌, ◌<◌, drop}
use Rattle.recording.specs.Ids.{number_behind}
use Rattle.recording.proofs.id_of.Given as goal

abbrev pub invariant-loop-byte : goal.invariant-loop-byte
invariant-loop-byte l = (l.id < 16 ^ l.byte-index) × (number_behind l.id (drop l.byte-index l.word) ≡ number_behind 0 l.word)
