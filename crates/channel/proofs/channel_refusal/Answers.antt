-- The tests come in the order of the numbers: the first that fails gives its own.
use mathlib.Core.Path.{sym, ◌∙◌}
use borrow.Author.Tests.{le-leb, lt-leb}
use Rattle.channel.proofs.channel_refusal.Goals as goal

pub returns-then-end-start : goal.returns-then-end-start
returns-then-end-start c = rw (lt-leb _ _ c.if-end-start.true)

pub returns-then-size-end : goal.returns-then-size-end
returns-then-size-end c = rw (le-leb _ _ c.if-end-start.false, lt-leb _ _ c.if-size-end.true)

pub returns-then-not-room : goal.returns-then-not-room
returns-then-not-room c =
    let room = c.args.room in
    rw (le-leb _ _ c.if-end-start.false, le-leb _ _ c.if-size-end.false, c.if-not-room.true)

pub returns-then-not-is_known_index : goal.returns-then-not-is_known_index
returns-then-not-is_known_index c =
    let known = c.is_known_index in
    let judged = c in
    rw (
      le-leb _ _ judged.if-end-start.false,
      le-leb _ _ judged.if-size-end.false,
      judged.if-not-room.false,
      sym known.ensures ∙ c.if-not-is_known_index.true,
    )

pub returns : goal.returns
returns c =
    let known = c.is_known_index in
    let judged = c in
    rw (
      le-leb _ _ judged.if-end-start.false,
      le-leb _ _ judged.if-size-end.false,
      judged.if-not-room.false,
      sym known.ensures ∙ c.if-not-is_known_index.false,
    )
