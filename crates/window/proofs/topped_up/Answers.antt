-- `window::topped_up` meets its contract: a window is not low, or it is refilled. Assumes nothing.
use Rattle.window.proofs.Unread.{refilled_not_low}
use Rattle.window.proofs.topped_up.Goals as goal

pub returns-in_default-clause-window_value : goal.returns-in_default-clause-window_value
returns-in_default-clause-window_value g c =
    let refilled = c.refill-refilled in
    refilled_not_low c.args.buffer.now c.args.window refilled.new.buffer refilled.result refilled.ensures c.args.most c.requires.1
