-- What the code of the sections cites: an increment, and the sections of a group, by what the field at the place is.
-- Assumes nothing.
use Prim.Native.Nat.{ℕ, zero, suc, ◌+◌, ◌*◌, ◌%◌, ◌<◌, ◌≤◌, ◌^◌}
use mathlib.Core.Path.{◌≡◌, refl, sym, ◌∙◌, ap}
use mathlib.Core.List.{List, [], ◌∷◌}
use mathlib.Core.Bool.{true, false}
use native.Mathlib.Omega.{arith}
use native.Mathlib.Nat.{mod-eq_of_lt, one-mul, add-mul}
use native.Mathlib.Numerals.{add-one}
use lib.Pow.{pow_mono}
use lib.ListN.{length, drop, set, replicate, length-set, length-replicate, drop_of_length-le}
use lib.Seq.{drop-cons}
use lib.Dec.{eqb, ltb, leb}
use borrow.Author.Tests.{leb-true, lt-ltb, le-ltb, le-leb, lt-leb, eq-eqb, ne_eqb}
use Rattle.bits.specs.Reader.{got, refused, Reader, give, ◌>>=◌}
use Rattle.bits.specs.Field.{field}
use Rattle.bits.specs.Loop.{while}
use Rattle.bits.proofs.Lawful.{Lawful, tested-got, bind_lawful, give-lawful, expecting-lawful}
use Rattle.bits.proofs.FieldLaws.{field-lawful}
use Rattle.bits.proofs.WhileLaws.{Takes, field-takes, expecting-takes, bind_takes, while-lawful, while-more, while-stop, while-done}
use Rattle.bits.specs.Bytes.{over}
use Rattle.bits.proofs.OverLaws.{put-none, put_one, over_then}
use Rattle.channel_side.specs.Sections.{Length, increment, section_length, section_book, fill}
use Rattle.channel_side.specs.Sections.{Covered, section, group_sections, group_books}

-- one, shifted left
pub shifted : (w : ℕ) → w ≤ 12 → 1 * 2 ^ w % 4294967296 ≡ 2 ^ w
shifted w h = simp one-mul (mod-eq_of_lt (omega (arith, pow_mono {i = w} {j = 12} h)))

-- the rest of a section's length, of which so many bands are there
abbrev going : ℕ → Length
going n = record { bands = n; goes_on = true }

unfoldable pub length_from : ℕ → ℕ → ℕ → Reader ℕ
length_from width room n = while (λ x. x.goes_on) (increment width room) (going n) >>= λ x. give x.bands

increment-lawful : (width room : ℕ) (x : Length) → Lawful (increment width room x)
unfolding increment
increment-lawful width room x = bind_lawful _ _ (expecting-lawful 22 _ _ (field-lawful width)) (λ v. give-lawful _)

pub increment-takes : (width room : ℕ) → 0 < width → (x : Length) → Takes (increment width room x)
unfolding increment
increment-takes width room h x = bind_takes _ _ (expecting-takes 22 _ _ (field-takes width h)) (λ v. give-lawful _)

pub length-lawful : (width room : ℕ) → 0 < width → Lawful (section_length width room)
unfolding section_length
length-lawful width room h =
    bind_lawful _ _ (while-lawful _ _ (increment-takes width room h) (increment-lawful width room) (going 0)) (λ x. give-lawful _)

pub length_begin : (width room : ℕ) (s : List ℕ) (at end : ℕ) → section_length width room s at end ≡ length_from width room 0 s at end
unfolding section_length length_from
length_begin width room s at end = refl

module _ (width room n : ℕ) (s : List ℕ) (at end : ℕ) where
  length_stop : {r p : ℕ} → increment width room (going n) s at end ≡ refused r p → length_from width room n s at end ≡ refused r p
  unfolding length_from
  length_stop e = rw (while-stop (λ x. x.goes_on) (increment width room) (going n) s at end _ _ refl e)

  pub length_refused : {r p : ℕ} → field width s at end ≡ refused r p → length_from width room n s at end ≡ refused r p
  unfolding increment
  length_refused e = length_stop (rw e)

  pub length_none : {v m : ℕ} → field width s at end ≡ got v m → n + v ≡ 0 → length_from width room n s at end ≡ refused 22 at
  unfolding increment
  length_none {v} e z = length_stop (rw (e, le-ltb 0 (n + v) (omega arith)))

  module _ {v m : ℕ} (e : field width s at end ≡ got v m) (z : 0 < n + v) where
    pub length_past : room < n + v → length_from width room n s at end ≡ refused 22 at
    unfolding increment
    length_past g = length_stop (rw (e, lt-ltb 0 (n + v) z, lt-leb (n + v) room g))

    abbrev after : Length
    after = record { bands = n + v; goes_on = eqb (v + 1) (2 ^ width) }

    module _ (h : 0 < width) (g : n + v ≤ room) where
      taken : increment width room (going n) s at end ≡ got after m
      unfolding increment
      taken = rw (e, lt-ltb 0 (n + v) z, le-leb (n + v) room g)

      on : length_from width room n s at end
          ≡ (while (λ x. x.goes_on) (increment width room) after >>= λ x. give x.bands) s m end
      unfolding length_from
      on = rw (while-more (λ x. x.goes_on) (increment width room) (increment-takes width room h) (going n) _ s at end m refl taken)

      pub length_done : (v + 1 ≡ 2 ^ width → ⊥) → length_from width room n s at end ≡ got (n + v) m
      length_done o =
          on
          ∙ rw (ne_eqb (v + 1) (2 ^ width) o)
          (rw (while-done (λ x. x.goes_on) (increment width room) (record { bands = n + v; goes_on = false }) s m end refl))

      pub length_more : v + 1 ≡ 2 ^ width → length_from width room n s at end ≡ length_from width room (n + v) s m end
      unfolding length_from
      length_more o = on ∙ rw (eq-eqb (v + 1) (2 ^ width) o)

-- copies that are put one after another are put at once
pub filled : (xs : List ℕ) (i n v : ℕ) → i + n ≤ length xs → over xs i (replicate n v) ≡ fill xs i n v
unfolding fill
filled xs i zero v h = sym (put-none xs i).0
filled xs i (suc n) v h =
    let l = length-replicate n v in
    let m : i + 1 + n ≤ length (set xs i v) = rw (length-set xs i v) (omega arith) in
    sym (over_then xs i (i + 1) (v ∷ []) (replicate n v) refl (omega arith))
    ∙ ap (λ (ys : List ℕ). over ys (i + 1) (replicate n v)) (sym (put_one xs i v (omega arith)).0)
    ∙ filled (set xs i v) (i + 1) n v m

-- the book of a section is 11 at most
pub book_most : (s : List ℕ) (at end v next : ℕ) → section_book s at end ≡ got v next → v ≤ 11
unfolding section_book
book_most s at end v next e = leb-true _ _ (tested-got (field 4 s at end) 23 (λ b. leb b 11) at next v e).1

-- the rest of a group's sections, with so many bands covered
unfoldable pub sections_from : ℕ → ℕ → ℕ → ℕ → List ℕ → Reader (List ℕ)
sections_from width max_sfb base count books =
    while (λ x. ltb x.count max_sfb) (section width max_sfb base) (record { count = count; books = books }) >>= λ x. give x.books

pub sections_begin : (width max_sfb base : ℕ) (books s : List ℕ) (at end : ℕ)
    → group_sections width max_sfb base books s at end ≡ sections_from width max_sfb base 0 books s at end
unfolding group_sections sections_from
sections_begin width max_sfb base books s at end = refl

module _ (width max_sfb base : ℕ) (h : 0 < width) where
  section-lawful : (x : Covered) → Lawful (section width max_sfb base x)
  unfolding section section_book
  section-lawful x =
      bind_lawful _ _ (expecting-lawful 23 _ _ (field-lawful 4)) λ book. bind_lawful _ _ (length-lawful width _ h) (λ n. give-lawful _)

  pub section-takes : (x : Covered) → Takes (section width max_sfb base x)
  unfolding section section_book
  section-takes x =
      bind_takes _ _ (expecting-takes 23 _ _ (field-takes 4 (omega arith))) λ book.
      bind_lawful _ _ (length-lawful width _ h) (λ n. give-lawful _)

  pub group-lawful : (books : List ℕ) → Lawful (group_sections width max_sfb base books)
  unfolding group_sections
  group-lawful books = bind_lawful _ _ (while-lawful _ _ section-takes section-lawful _) (λ x. give-lawful _)

  pub sections_more : (count : ℕ) (books s : List ℕ) (at end : ℕ) {bands m : ℕ} {bs : List ℕ} → count < max_sfb
      → section width max_sfb base (record { count = count; books = books }) s at end ≡ got (record { count = bands; books = bs }) m
      → sections_from width max_sfb base count books s at end ≡ sections_from width max_sfb base bands bs s m end
  unfolding sections_from
  sections_more count books s at end l e =
      rw (while-more (λ x. ltb x.count max_sfb) (section width max_sfb base) section-takes _ _ s at end _ (lt-ltb count max_sfb l) e)

module _ (width max_sfb base count : ℕ) (books s : List ℕ) (at end : ℕ) where
  pub sections_stop : {r p : ℕ} → count < max_sfb
      → section width max_sfb base (record { count = count; books = books }) s at end ≡ refused r p
      → sections_from width max_sfb base count books s at end ≡ refused r p
  unfolding sections_from
  sections_stop l e =
      rw (while-stop (λ x. ltb x.count max_sfb) (section width max_sfb base) _ s at end _ _ (lt-ltb count max_sfb l) e)

  pub sections_done : max_sfb ≤ count → sections_from width max_sfb base count books s at end ≡ got books at
  unfolding sections_from
  sections_done l =
      let covered : Covered = record { count = count; books = books } in
      rw (while-done (λ x. ltb x.count max_sfb) (section width max_sfb base) covered s at end (le-ltb count max_sfb l))

-- the groups that are left: k of them are read
module _ (width max_sfb : ℕ) (groups : List ℕ) where
  abbrev pub left : ℕ → List ℕ → Reader (List ℕ)
  left k books = group_books width max_sfb (drop k groups) (k * max_sfb) books

  one_more : (k : ℕ) → k * max_sfb + max_sfb ≡ suc k * max_sfb
  one_more k = omega (arith, add-mul k 1 max_sfb, one-mul max_sfb)

  pub books_stop : (k : ℕ) (books s : List ℕ) (at end : ℕ) {r p : ℕ} → k < length groups
      → refused r p ≡ group_sections width max_sfb (k * max_sfb) books s at end → refused r p ≡ left k books s at end
  unfolding group_books
  books_stop k books s at end h e = rw (drop-cons groups k 0 h, ← e)

  pub books_more : (k : ℕ) (books s : List ℕ) (at end : ℕ) {bs : List ℕ} {m : ℕ} → k < length groups
      → got bs m ≡ group_sections width max_sfb (k * max_sfb) books s at end → left k books s at end ≡ left (k + 1) bs s m end
  unfolding group_books
  books_more k books s at end h e = rw (drop-cons groups k 0 h, ← e, one_more k, add-one)

  pub books_done : (k : ℕ) (books s : List ℕ) (at end : ℕ) → length groups ≤ k → left k books s at end ≡ got books at
  unfolding group_books
  books_done k books s at end h = rw (drop_of_length-le groups {i = k} h)

-- what the code cites
pub ruleset length_laws = (length_begin, length_refused, length_none, length_past, length_done, length_more, shifted)

pub ruleset group_laws = (sections_begin, sections_stop, sections_more, sections_done)

pub ruleset books_laws = (books_stop, books_more, books_done)
