-- Of a sound image only the index is left to judge.
use mathlib.Core.Path.{◌≡◌, sym, ◌∙◌}
use mathlib.Core.Bool.{true}
use native.Mathlib.Omega.{arith}
use Rattle.image.specs.Image.{header_of}
use Rattle.bits.specs.Sampling.{known_index}
use Rattle.image.proofs.ImageLaws.{sound_facts}
use Rattle.bits.proofs.SamplingLaws.{known_small}
use Rattle.image.proofs.sound_header.Goals as goal

pub pair_at-index-requires : goal.pair_at-index-requires
pair_at-index-requires c = let f = sound_facts c.args.image.now c.requires in omega arith

pub returns-then-not-is_known_index : goal.returns-then-not-is_known_index
unfolding header_of
returns-then-not-is_known_index c =
    rw (c.requires, ← c.pair_at-index.ensures.0, ← c.is_known_index.ensures, c.if-not-is_known_index.true) c.refused_header.ensures

pub pair_at-requires : goal.pair_at-requires
pair_at-requires c = let f = sound_facts c.args.image.now c.requires in omega arith

pub overflow_cast-result : goal.overflow_cast-result
overflow_cast-result c =
    let known : known_index c.pair_at-index.result ≡ true = sym c.is_known_index.ensures ∙ c.if-not-is_known_index.false in
    record { fits = omega (arith, known_small c.pair_at-index.result known) }

pub returns : goal.returns
unfolding header_of
returns c =
    let known : known_index c.pair_at-index.result ≡ true = sym c.is_known_index.ensures ∙ c.if-not-is_known_index.false in
    rw (c.requires, ← c.pair_at-index.ensures.0, known, c.pair_at.ensures.0)
