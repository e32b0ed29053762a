-- The steps of the code in a lookup, held to its definition.
-- Assumes nothing.
use Prim.Native.Nat.{ℕ, suc, ◌+◌, ◌-◌, ◌/◌, ◌%◌, ◌^◌, ◌<◌, ◌≤◌}
use mathlib.Core.Path.{◌≡◌, refl, ◌∙◌, ap}
use mathlib.Core.List.{List}
use lib.ListN.{get_or}
use borrow.Author.Tests.{le-leb, lt-leb, lt-ltb, le-ltb, eq-eqb, ne_eqb}
use Rattle.bits.specs.Reader.{Answer, got, refused}
use Rattle.bits.specs.InnerWindow.{window_of}
use Rattle.words.specs.InnerLookup.{entry_in, length_in, further, next_element, leads_to, leaf_of, answered, looked}

pub lead_leaf : (n : ℕ) (look : List ℕ) (w d e : ℕ) → e < 16384 → e ≡ leads_to (suc n) look w d e
unfolding leads_to
lead_leaf n look w d e h = rw (lt-ltb _ _ h)

pub lead_link : (n : ℕ) (look : List ℕ) (w d e : ℕ) → 16384 ≤ e
    → leads_to n look w (d + further e) (next_element look w d e) ≡ leads_to (suc n) look w d e
unfolding leads_to
lead_link n look w d e h = rw (le-ltb _ _ h)

pub lead_none : (look : List ℕ) (w d e : ℕ) → e ≡ leads_to 0 look w d e
unfolding leads_to
lead_none look w d e = refl

pub next-over : (look : List ℕ) (w d e : ℕ) → 24 < d + further e → 0 ≡ next_element look w d e
unfolding next_element
next-over look w d e h = rw (lt-leb _ _ h)

pub next-at : (look : List ℕ) (w d e : ℕ) {v : ℕ} → d + further e ≤ 24
    → v ≡ get_or look (e % 2048 + w / 2 ^ (24 - (d + further e)) % 2 ^ further e) 0 → v ≡ next_element look w d e
unfolding next_element
next-at look w d e h g = rw (le-leb _ _ h) g

pub answered-cut : (e at have : ℕ) → have < length_in e → refused 10 at ≡ answered e at have
unfolding answered
answered-cut e at have h = rw (lt-leb _ _ h)

pub answered-none : (e at have : ℕ) → length_in e ≤ have → entry_in e ≡ 511 → refused 11 at ≡ answered e at have
unfolding answered
answered-none e at have h g = rw (le-leb _ _ h, eq-eqb _ _ g)

pub answered-got : (e at have : ℕ) → length_in e ≤ have → (entry_in e ≡ 511 → ⊥) → got (entry_in e) (at + length_in e) ≡ answered e at have
unfolding answered
answered-got e at have h g = rw (le-leb _ _ h, ne_eqb _ _ g)

-- the answer of the leaf of the window at a place is what is looked up there
pub looked-by : (look : List ℕ) (k : ℕ) (s : List ℕ) (at end : ℕ) {x : Answer ℕ} {w e : ℕ} → w ≡ window_of s at (end - at)
    → e ≡ leaf_of look k w → x ≡ answered e at (end - at) → x ≡ looked look k s at end
unfolding looked
looked-by look k s at end p q a = a ∙ ap (λ (e : ℕ). answered e at (end - at)) (q ∙ ap (leaf_of look k) p)
