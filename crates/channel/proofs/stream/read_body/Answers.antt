-- Sections, then what follows them: the first refusal stands.
use mathlib.Core.Path.{◌≡◌, sym}
use borrow.Author.Rules.{rules}
use Rattle.bits.specs.Reader.{refused}
use Rattle.channel_side.specs.Sections.{sections}
use Rattle.channel.specs.Stream.{stream_after}
use native.Mathlib.Nat.{le_trans}
use Rattle.channel_bands.proofs.BandLaws.{bands-most}
use Rattle.channel.proofs.StreamLaws.{sections-is, books_on}
use Rattle.channel.proofs.stream.read_body.Goals as goal

pub read_books-requires : goal.read_books-requires
read_books-requires c = le_trans c.requires.1 (bands-most _ _)

pub returns-in_err-after_books : goal.returns-in_err-after_books
unfolding stream_after
returns-in_err-after_books c =
    let x = c.args in
    let r = c.in_err-after_books.field-0.0 in
    let e : sections x.head.window x.s.now.bytes.now x.at x.s.now.end ≡ refused r.number r.place =
    sections-is x.head.window _ _ _ _ c.requires.2 (sym c.in_err-after_books.ensures) in
    search rules

pub returns : goal.returns
returns c =
    let x = c.args in
    let sent = sections-is x.head.window _ _ _ _ c.requires.2 (sym c.in_ok-after_books.ensures) in
    rw (books_on x.index x.head _ _ _ sent) c.read_with_books.ensures
