-- Each return shows the tests of `sound_bytes` up to the one that failed.
-- Assumes nothing.
use mathlib.Core.Path.{sym, ◌∙◌}
use native.Mathlib.Omega.{arith}
use borrow.Author.Tests.{le-leb, lt-leb}
use lib.ListN.{length}
use Rattle.c_layout.specs.StateBytes.{sound_bytes}
use Rattle.c_layout.proofs.states.is_sound_at.Goals as goal

pub returns-then-s-lt146 : goal.returns-then-s-lt146
unfolding sound_bytes
returns-then-s-lt146 c = rw (lt-leb _ _ c.if-s-lt146.true)

pub returns-then-not-are_flags : goal.returns-then-not-are_flags
unfolding sound_bytes
returns-then-not-are_flags c =
    let entry = c in
    let s = entry.args.s.now in
    rw (le-leb 146 (length s) (omega arith), sym c.are_flags.ensures ∙ c.if-not-are_flags.true)

pub returns : goal.returns
unfolding sound_bytes
returns c =
    let entry = c in
    let s = entry.args.s.now in
    let flags = c in
    c.is_sound.ensures ∙ rw (
      le-leb 146 (length s) (omega arith),
      sym flags.are_flags.ensures
          ∙ c.if-not-are_flags.false,
      c.state_at.ensures,
    )
