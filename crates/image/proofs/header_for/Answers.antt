-- An image that is not sound has 5; of a sound one the room is judged before what its header says.
-- Assumes nothing.
use mathlib.Core.Path.{◌≡◌, sym, ◌∙◌}
use mathlib.Core.Bool.{true}
use native.Mathlib.Nat.{mul-le-mul}
use native.Mathlib.Omega.{arith}
use borrow.Author.Tests.{le-leb, lt-leb}
use Rattle.image.specs.Image.{sound_image, header_for}
use Rattle.image.proofs.ImageLaws.{sound_facts}
use Rattle.image.proofs.header_for.Goals as goal

pub returns-then-not-is_sound : goal.returns-then-not-is_sound
unfolding header_for
returns-then-not-is_sound c = rw (← c.is_sound.ensures, c.if-not-is_sound.true) c.refused_header.ensures

pub pair_at-requires : goal.pair_at-requires
pair_at-requires c =
    let sound : sound_image c.args.image.now ≡ true = sym c.is_sound.ensures ∙ c.if-not-is_sound.false in
    let f = sound_facts c.args.image.now sound in omega arith

pub overflow_mul-each : goal.overflow_mul-each
overflow_mul-each c = record { fits = omega (arith, mul-le-mul c.requires c.pair_at.ensures.1) }

pub returns-then-room-each : goal.returns-then-room-each
unfolding header_for
returns-then-room-each c =
    let sound : sound_image c.args.image.now ≡ true = sym c.is_sound.ensures ∙ c.if-not-is_sound.false in
    rw (sound, lt-leb _ _ (rw c.pair_at.ensures.0 at c.if-room-each.true)) c.refused_header-then-room-each.ensures

pub sound_header-requires : goal.sound_header-requires
sound_header-requires c = sym c.is_sound.ensures ∙ c.if-not-is_sound.false

pub returns : goal.returns
unfolding header_for
returns c =
    let sound : sound_image c.args.image.now ≡ true = sym c.is_sound.ensures ∙ c.if-not-is_sound.false in
    rw (sound, le-leb _ _ (rw c.pair_at.ensures.0 at c.if-room-each.false)) c.sound_header.ensures
