-- The pulses, the lines, then the pulses on the lines: the first refusal stands.
use mathlib.Core.Path.{sym}
use Rattle.channel.proofs.StreamLaws.{coded-is}
use Rattle.channel.proofs.stream.read_pulsed.Goals as goal

pub returns : goal.returns
returns c =
    let x = c.args in
    coded-is x.index x.window x.books.now _ _ _ (sym c.in_ok-pulses.ensures.0) (sym c.in_ok-after_lines.ensures) c.apply_pulses.result _
    (c.apply_pulses.ensures x.s.now.bytes.now x.s.now.end)
