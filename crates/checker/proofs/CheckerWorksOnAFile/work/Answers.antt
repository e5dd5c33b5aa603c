-- `Checker::work`: what the out buffer holds at the end is what is said of the bytes that were read. Assumes nothing.
use Rattle.std.proofs.Common.{◌≡◌, ◌∙◌, true, Some, None}
use Rattle.std.specs.Prelude.{Option, OnSome, is_some}
use Rattle.pieces.specs.Quiet.{Quiet, PrintedAtOnce}
use Rattle.recorder_file.specs.Check.{checker}
use Rattle.recorder_file.specs.Laws.{check_quiet}
use Rattle.recorder_file.proofs.Checks.{prints_what_is_said}
use Rattle.checker.proofs.CheckerWorksOnAFile.work.Goals as goal

-- what holds where there is a value
there : {X : Type 0} (P : Type 0) (o : Option X) → true ≡ is_some o → OnSome o P → P
there P None e held = cc
there P (Some x) e held = held

pub finish-requires : goal.finish-requires
finish-requires g c =
    let run = c.run-stopped in
    let printed = there (Quiet checker → PrintedAtOnce checker run.new.out.items) run.result c.if-is_some.ensures run.ensures.at_once check_quiet in
    record { read = printed.read; whole = c.as_slice.ensures.value ∙ printed.whole ∙ prints_what_is_said printed.read }
