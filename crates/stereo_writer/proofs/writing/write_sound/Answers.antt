-- Each return shows the tests of `writing` up to the one that refused; the last one copies the spelling out.
use Rattle.stereo_writer.specs.Writing.{writing, written_over}
use Rattle.stereo_writer.specs.Spelling.{spelling}
use Rattle.bits.proofs.PackedLaws.{scratch-bytes}
use Rattle.bits.specs.Packed.{bytes_for}
use Rattle.bits.specs.Pieces.{total}
use lib.ListN.{length}
use lib.Dec.{leb}
use borrow.Author.Tests.{le-leb, lt-leb}
use native.Mathlib.Omega.{arith}
use mathlib.Core.Bool.{true, false}
use mathlib.Core.Path.{◌≡◌, ◌∙◌}
use Rattle.stereo_writer.proofs.writing.write_sound.Goals as goal

pub returns-then-not-spell : goal.returns-then-not-spell
unfolding writing written_over
returns-then-not-spell c = (
  c.refused.ensures ∙ rw (c.requires, ← c.read_from-before.ensures, ← c.spell.ensures.2, c.if-not-spell.true),
  rw c.refused.ensures,
)

pub returns-then-not-is_accepted : goal.returns-then-not-is_accepted
unfolding writing written_over
returns-then-not-is_accepted c = (
  c.refused-then-not-is_accepted.ensures
      ∙ rw (
        c.requires,
        ← c.read_from-before.ensures,
        ← c.spell.ensures.2,
        c.if-not-spell.false,
        ← c.is_accepted.ensures,
        c.if-not-is_accepted.true,
      ),
  rw c.refused-then-not-is_accepted.ensures,
)

pub returns-then-out-bytes : goal.returns-then-out-bytes
unfolding writing written_over
returns-then-out-bytes c =
    let short : leb (bytes_for (total (spelling c.read_from-before.result c.args.contents.now))) (length c.args.out.now) ≡ false =
    rw (← c.spell.ensures.0, ← c.bytes_for-bytes.ensures) (lt-leb _ _ c.if-out-bytes.true) in (
      c.refused-then-out-bytes.ensures
          ∙ rw (
            c.requires,
            ← c.read_from-before.ensures,
            ← c.spell.ensures.2,
            c.if-not-spell.false,
            ← c.is_accepted.ensures,
            c.if-not-is_accepted.false,
            short,
          ),
      rw c.refused-then-out-bytes.ensures,
    )

pub returns : goal.returns
unfolding writing written_over
returns c =
    let spelled = c.spell.ensures in
    let ps = spelling c.read_from-before.result c.args.contents.now in
    let fits : leb (bytes_for (total ps)) (length c.args.out.now) ≡ true =
    rw (← spelled.0, ← c.bytes_for-bytes.ensures) (le-leb _ _ c.if-out-bytes.false) in
    let bytes = scratch-bytes 1536 ps (omega (arith, spelled.0, spelled.1)) in (
      rw (
        c.requires,
        ← c.read_from-before.ensures,
        ← spelled.2,
        c.if-not-spell.false,
        ← c.is_accepted.ensures,
        c.if-not-is_accepted.false,
        fits,
        spelled.0,
        c.carried-next.ensures,
      ),
      c.copy_out.ensures ∙ rw (c.bytes_for-bytes.ensures, spelled.0, spelled.3, bytes, ← c.read_from-before.ensures),
    )
