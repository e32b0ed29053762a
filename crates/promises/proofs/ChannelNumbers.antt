-- Which numbers a channel stream is refused with: 10, 13, 20 to 26; and a whole payload 12 besides.
-- Assumes nothing.
use Prim.Native.Nat.{ℕ, ◌<◌, ◌/◌}
use mathlib.Core.Path.{◌≡◌, refl, subst}
use mathlib.Core.List.{List, [], ◌∷◌}
use mathlib.Core.Bool.{Bool, true, false}
use native.Mathlib.Omega.{arith}
use lib.Dec.{leb}
use lib.IntN.{ℤ, nat_abs}
use Rattle.bits.specs.Reader.{got, refused, Reader, give, ◌>>=◌, pick, expecting}
use Rattle.bits.specs.Field.{field, zero_bit}
use Rattle.bits.specs.Loop.{counted, while}
use Rattle.bits.specs.Places.{here}
use Rattle.bits.specs.Payload.{whole}
use Rattle.bits.specs.Lists.{one_of}
use Rattle.bits.proofs.Numbered.{Numbered, give-numbered, here-numbered, field-numbered, zero_bit-numbered, bind-numbered}
use Rattle.bits.proofs.Numbered.{expecting-numbered, pick-numbered, counted-numbered, while-numbered, whole-numbered}
use Rattle.words.proofs.WordNumbered.{word-numbered, escape-numbered}
use Rattle.words.specs.Escape.{escape}
use Rattle.tables.specs.Tables.{codes_of, lens_of, word_of}
use Rattle.tables.specs.GeneratedNames.{table_at, scale_factor}
use Rattle.tables.proofs.Rules.{ruled-at}
use Rattle.channel_words.specs.Books.{Book, is_silent, book_of}
use Rattle.channel_words.proofs.BookLaws.{spectral-book}
use Rattle.bits.proofs.Bools.{true-false}
use borrow.Author.Tests.{eq-eqb}
use Rattle.channel_words.specs.Tuple.{spectral_word, value, escape_at, escaped, tuple}
use Rattle.channel_lines.specs.Spectrum.{band_word, band, windows_band, group_band, group_lines, spectrum}
use Rattle.channel_side.specs.declared.window.Window.{Window}
use Rattle.channel_side.specs.declared.pulses.Laid.{Laid}
use Rattle.channel_side.specs.declared.pulses.Pulses.{Pulses}
use Rattle.channel_side.specs.Window.{window_sequence, max_sfb_of, grouping_of, window_bands, window}
use Rattle.channel_side.specs.Sections.{Covered, increment, section_length, section_book, section, group_sections, group_books, sections}
use Rattle.channel_side.specs.Factors.{Factors, factor, band_factor, first_factors, scale_factors}
use Rattle.channel_side.specs.Pulses.{pulse, each_pulse, start_band, pulse_data, pulses, changed, apply_pulse, apply_pulses}
use Rattle.promises.specs.Refusals.{stream_refusals}
use Rattle.channel.specs.Stream.{head_of, no_tools, unpulsed, coded_of, stream_with, stream_after, stream}

abbrev own : ℕ → Bool
own = one_of stream_refusals

-- the laws of Numbered, at these numbers
give-own : {A : Type 0} (a : A) → Numbered own (give a)
give-own a = give-numbered own a

field-own : (k : ℕ) → Numbered own (field k)
field-own k = field-numbered own refl k

zero_13 : Numbered own (zero_bit 13)
zero_13 = zero_bit-numbered own refl 13 refl

zero_20 : Numbered own (zero_bit 20)
zero_20 = zero_bit-numbered own refl 20 refl

here-own : Numbered own here
here-own = here-numbered own

bind_own : {A B : Type 0} (r : Reader A) (k : A → Reader B) → Numbered own r → ((a : A) → Numbered own (k a)) → Numbered own (r >>= k)
bind_own r k g h = bind-numbered own r k g h

expecting-own : {A : Type 0} (m : ℕ) (t : A → Bool) (r : Reader A) → own m ≡ true → Numbered own r → Numbered own (expecting m t r)
expecting-own m t r o g = expecting-numbered own m t r o g

pick-own : {A : Type 0} (b : Bool) (r q : Reader A) → Numbered own r → Numbered own q → Numbered own (pick b r q)
pick-own b r q g h = pick-numbered own b r q g h

counted-own : {S : Type 0} (f : ℕ → S → Reader S) → ((i : ℕ) (x : S) → Numbered own (f i x)) → (i n : ℕ) (x : S)
    → Numbered own (counted i n f x)
counted-own f g i n x = counted-numbered own f g i n x

while-own : {S : Type 0} (on : S → Bool) (f : S → Reader S) → ((x : S) → Numbered own (f x)) → (x : S) → Numbered own (while on f x)
while-own on f g x = while-numbered own on f g x

escape-own : Numbered own escape
escape-own = escape-numbered own refl refl

-- a word of a table, which is complete
word-own : (i : ℕ) → i < 22 → Numbered own (word_of (table_at i))
word-own i h = word-numbered own refl (codes_of (table_at i)) (lens_of (table_at i)) (ruled-at i h)

ruleset owns = (bind_own, field-own, zero_13, zero_20, give-own, expecting-own, pick-own, counted-own, while-own, here-own)

window-own : (index : ℕ) → Numbered own (window index)
unfolding window window_sequence window_bands max_sfb_of grouping_of
window-own index = search owns depth 24

length-own : (width room : ℕ) → Numbered own (section_length width room)
unfolding section_length increment
length-own width room = search owns depth 16

section-own : (width max_sfb base : ℕ) (x : Covered) → Numbered own (section width max_sfb base x)
unfolding section section_book
section-own width max_sfb base x = search (owns, length-own) depth 12

group_own : (width max_sfb base : ℕ) (books : List ℕ) → Numbered own (group_sections width max_sfb base books)
unfolding group_sections
group_own width max_sfb base books = search (owns, section-own) depth 12

groups-own : (width max_sfb : ℕ) (ns : List ℕ) (base : ℕ) (books : List ℕ) → Numbered own (group_books width max_sfb ns base books)
unfolding group_books
groups-own width max_sfb [] base books = give-own books
groups-own width max_sfb (n ∷ ns) base books = bind_own _ _ (group_own width max_sfb base books) (groups-own width max_sfb ns _)

sections-own : (w : Window) → Numbered own (sections w)
unfolding sections
sections-own w = groups-own _ _ _ _ _

factor-word : Numbered own (word_of scale_factor)
factor-word = word-own 0 (omega arith)

factor-own : (books : List ℕ) (i : ℕ) (x : Factors) → Numbered own (band_factor books i x)
unfolding band_factor factor
factor-own books i x = search (owns, factor-word) depth 12

factors-own : (gain : ℕ) (w : Window) (books : List ℕ) → Numbered own (scale_factors gain w books)
unfolding scale_factors first_factors
factors-own gain w books = search (owns, factor-own) depth 12

pulse-own : (k : ℕ) (x : Laid) → Numbered own (pulse k x)
unfolding pulse
pulse-own k x = search owns depth 16

pulse_data-own : (index : ℕ) → Numbered own (pulse_data index)
unfolding pulse_data start_band each_pulse
pulse_data-own index = search (owns, pulse-own) depth 16

pulses-own : (index : ℕ) (short : Bool) → Numbered own (pulses index short)
unfolding pulses
pulses-own index short = search (owns, pulse_data-own) depth 12

changed-own : (z : ℤ) (line place : ℕ) (lines : List ℤ) (at n p : ℕ) → changed z line place lines at ≡ refused n p → own n ≡ true
unfolding changed
changed-own z line place lines at n p e = cases (leb (nat_abs z) 8191) _ e
  where
    cases : (b : Bool) (ls : List ℤ) → pick b (got ls at) (refused 26 place) ≡ refused n p → own n ≡ true
    cases true ls e = let z : ◌≡◌ {A = ℕ} 0 1 = cc in absurd (omega arith)
    cases false ls e = let z : 26 ≡ n = cc in subst (λ (k : ℕ). own k ≡ true) z refl

apply_own : (x : Pulses) (k : ℕ) (lines : List ℤ) → Numbered own (apply_pulse x k lines)
unfolding apply_pulse
apply_own x k lines = record { law = λ s at end n p e. changed-own _ _ _ lines at n p e }

applied_own : (x : Pulses) (lines : List ℤ) → Numbered own (apply_pulses x lines)
unfolding apply_pulses
applied_own x lines = counted-own (apply_pulse x) (apply_own x) 0 _ lines

-- a book that is not silent has a table
book-below : (n : ℕ) → ((book_of n).dim ≡ 0 → ⊥) → (book_of n).number < 22
book-below n h = let b = spectral-book n h in omega arith

value-own : (b : Book) (entry j : ℕ) (vs : List ℤ) → Numbered own (value b entry j vs)
unfolding value
value-own b entry j vs = search owns depth 12

escaped-own : (j : ℕ) (vs : List ℤ) → Numbered own (escaped j vs)
unfolding escaped escape_at
escaped-own j vs = search (owns, escape-own) depth 12

tuple-own : (b : Book) → b.number < 22 → Numbered own (tuple b)
unfolding tuple spectral_word
tuple-own b h = let w = word-own b.number h in search (owns, value-own, escaped-own) depth 12

band_word-own : (b : Book) → b.number < 22 → (first t : ℕ) (lines : List ℤ) → Numbered own (band_word b first t lines)
unfolding band_word
band_word-own b h first t lines = bind_own _ _ (tuple-own b h) (λ vs. give-own _)

band-own : (number first width : ℕ) (lines : List ℤ) → Numbered own (band (book_of number) first width lines)
unfolding band
band-own number first width lines = by-book (is_silent (book_of number)) refl
  where
    by-book : (b : Bool) → is_silent (book_of number) ≡ b
        → Numbered own (pick b (give lines) (counted 0 (width / (book_of number).dim) (band_word (book_of number) first) lines))
    by-book true e = give-own lines
    by-book false e =
        let below = book-below number (λ z. true-false _ (eq-eqb _ 0 z) e) in
        counted-own (band_word (book_of number) first) (band_word-own (book_of number) below first) 0 _ lines

group_band-own : (edges books : List ℕ) (base from n b : ℕ) (lines : List ℤ) → Numbered own (group_band edges books base from n b lines)
unfolding group_band windows_band
group_band-own edges books base from n b lines = counted-own _ (λ v. band-own _ _ _) from n lines

group_lines-own : (edges : List ℕ) (max_sfb : ℕ) (books ns : List ℕ) (base from : ℕ) (lines : List ℤ)
    → Numbered own (group_lines edges max_sfb books ns base from lines)
unfolding group_lines
group_lines-own edges max_sfb books [] base from lines = give-own lines
group_lines-own edges max_sfb books (n ∷ ns) base from lines =
    bind_own _ _ (counted-own _ (group_band-own edges books base from n) 0 max_sfb lines) (group_lines-own edges max_sfb books ns _ _)

spectrum-own : (edges : List ℕ) (max_sfb : ℕ) (books groups : List ℕ) → Numbered own (spectrum edges max_sfb books groups)
unfolding spectrum
spectrum-own edges max_sfb books groups = group_lines-own edges max_sfb books groups 0 0 _

unpulsed-own : (index : ℕ) (w : Window) (books : List ℕ) → Numbered own (unpulsed index w books)
unfolding unpulsed no_tools
unpulsed-own index w books = search (owns, spectrum-own) depth 12

coded-own : (index : ℕ) (w : Window) (books : List ℕ) → Numbered own (coded_of index w books)
unfolding coded_of
coded-own index w books = search (owns, pulses-own, unpulsed-own, applied_own) depth 12

head-own : (index : ℕ) → Numbered own (head_of index)
unfolding head_of
head-own index = search (owns, window-own) depth 12

pub stream-own : (index : ℕ) → Numbered own (stream index)
unfolding stream stream_after stream_with
stream-own index = search (owns, head-own, sections-own, factors-own, coded-own) depth 12

-- a refusal of a stream is one of its numbers
pub stream-numbers : (index : ℕ) (s : List ℕ) (n p : ℕ) → whole (stream index) s ≡ refused n p → one_of stream_refusals n ≡ true
stream-numbers index s n p e = whole-numbered own (stream index) refl (stream-own index) s n p e
