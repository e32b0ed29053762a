-- No section has a book above 11: every book that sections give is silent or spectral.
-- Assumes nothing.
use Prim.Native.Nat.{ℕ, zero, suc, ◌+◌, ◌≤◌}
use mathlib.Core.List.{List, [], ◌∷◌}
use native.Mathlib.Omega.{arith}
use lib.ListN.{get_or, set, replicate}
use Rattle.bits.proofs.Gives.{Gives, give-gives, bind_gives, then_gives, while-gives}
use Rattle.channel_side.specs.Window.{Window}
use Rattle.channel_side.specs.Sections.{section_length, section_book, fill, Covered, section, group_sections, group_books, sections}
use Rattle.channel_side.proofs.MostLaws.{set-most}
use Rattle.channel_side.proofs.SectionLaws.{book_most}

-- no book is above 11
unfoldable pub Known : List ℕ → Type 0
Known books = (k : ℕ) → get_or books k 0 ≤ 11

fill_known : (books : List ℕ) (i n book : ℕ) → book ≤ 11 → Known books → Known (fill books i n book)
unfolding fill Known
fill_known books i zero book h l = l
fill_known books i (suc n) book h l = fill_known (set books i book) (i + 1) n book h (set-most 11 books i book h l)

section-known : (width max_sfb base : ℕ) (x : Covered) → Known x.books → Gives (λ y. Known y.books) (section width max_sfb base x)
unfolding section
section-known width max_sfb base x l =
    bind_gives {P = λ book. book ≤ 11} {r = section_book} (record { law = λ s at end next v e. book_most s at end v next e }) λ book h.
    then_gives (section_length width _) λ n. give-gives (fill_known x.books _ n book h l)

group_known : (width max_sfb base : ℕ) (books : List ℕ) → Known books → Gives Known (group_sections width max_sfb base books)
unfolding group_sections
group_known width max_sfb base books l =
    bind_gives (while-gives (λ y. Known y.books) _ (section-known width max_sfb base) (record { count = 0; books = books }) l) λ x h.
    give-gives h

groups-known : (width max_sfb : ℕ) (ns : List ℕ) (base : ℕ) (books : List ℕ) → Known books
    → Gives Known (group_books width max_sfb ns base books)
unfolding group_books
groups-known width max_sfb [] base books l = give-gives l
groups-known width max_sfb (n ∷ ns) base books l =
    bind_gives (group_known width max_sfb base books l) λ bs h. groups-known width max_sfb ns _ bs h

zeros-known : (n : ℕ) → Known (replicate n 0)
unfolding Known
zeros-known zero k = omega arith
zeros-known (suc n) zero = omega arith
zeros-known (suc n) (suc k) = zeros-known n k

pub sections-known : (w : Window) → Gives Known (sections w)
unfolding sections
sections-known w = groups-known _ _ _ _ _ (zeros-known 120)
