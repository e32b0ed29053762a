-- The flags that have to be 0, then the spectrum: the first refusal stands.
use mathlib.Core.Path.{sym}
use native.Mathlib.Omega.{arith}
use Rattle.channel_bands.proofs.BandLaws.{bands-rising, bands-most, bands-some}
use Rattle.channel_side.specs.Window.{is_short}
use Rattle.channel.specs.Stream.{unpulsed}
use Rattle.channel.proofs.StreamLaws.{spectrum-is}
use Rattle.channel.proofs.stream.read_unpulsed.Goals as goal

pub read_lines-requires : goal.read_lines-requires
read_lines-requires c =
    let r = c.requires in
    let short = is_short c.args.window in
    let most = bands-most c.args.index short in
    let some = bands-some c.args.index short in
    (rw r.0 (bands-rising c.args.index short), rw r.0 (omega arith), omega arith)

pub returns : goal.returns
unfolding unpulsed
returns c =
    rw (← c.in_ok-after_flags.ensures) (sym (spectrum-is _ _ _ _ _ _ _ _ _ c.requires.0 c.requires.2 (sym c.read_lines.ensures)))
