-- The groups that are left are read into the books that are there, one a turn.
use mathlib.Core.Path.{◌≡◌}
use Rattle.bits.specs.InnerAnswers.{reads}
use Rattle.channel_bands.specs.Grouping.{groups_of}
use Rattle.channel_side.specs.Sections.{group_books, width_of}
use Rattle.channel_side.proofs.SectionLaws.{left}
use Rattle.channel_side.proofs.sections.read_books.Given as goal

abbrev pub invariant-loop-group : goal.invariant-loop-group
invariant-loop-group l =
    reads (group_books (width_of l.short) l.max_sfb (groups_of l.short l.grouping) 0 l.initial.books) l.s l.at
    ≡ reads (left (width_of l.short) l.max_sfb (groups_of l.short l.grouping) l.group l.books) l.s l.place
