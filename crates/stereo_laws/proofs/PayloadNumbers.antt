-- Which numbers a payload's reading refuses with: 10, 13, 31, 32, 33, 34; and a whole payload 12 besides.
-- Assumes nothing.
use Rattle.stereo_indices.proofs.KindLaws.{of_table}
use Prim.Native.Nat.{ℕ, ◌*◌}
use mathlib.Core.Path.{◌≡◌, refl, subst}
use mathlib.Core.List.{List, [], ◌∷◌}
use mathlib.Core.Bool.{Bool, true, false}
use lib.Dec.{eqb}
use Rattle.bits.specs.Reader.{refused, Reader, give, ◌>>=◌, pick, expecting}
use Rattle.bits.specs.Field.{field, zero_bit}
use Rattle.bits.specs.Loop.{listed}
use Rattle.bits.specs.Inside.{Fill, left_over}
use Rattle.bits.specs.Places.{here, refuse_at}
use Rattle.bits.specs.Payload.{whole}
use Rattle.bits.specs.Lists.{one_of}
use Rattle.bits.proofs.Bools.{true-false}
use Rattle.bits.proofs.Numbered.{Numbered, give-numbered, here-numbered, refusing-numbered, field-numbered, zero_bit-numbered}
use Rattle.bits.proofs.Numbered.{bind-numbered, expecting-numbered, pick-numbered, listed-numbered, left_over-numbered, inside-numbered}
use Rattle.bits.proofs.Numbered.{whole-numbered}
use Rattle.words.proofs.WordNumbered.{word-numbered}
use Rattle.tables.specs.Tables.{codes_of, lens_of, word_of}
use Rattle.tables.specs.GeneratedNames.{table_at}
use Rattle.tables.proofs.Rules.{ruled-at}
use Rattle.stereo_indices.specs.Difference.{difference}
use Rattle.stereo_indices.specs.Indices.{index_from, index, indices}
use Rattle.stereo_indices.specs.Rows.{row, rows_of, rows}
use Rattle.stereo_indices.specs.declared.Kind.{Kind}
use Rattle.stereo_indices.specs.declared.Record.{Record}
use Rattle.stereo.specs.Header.{mode, switch, header_fields, header}
use Rattle.stereo.specs.Frame.{borders_of, borders, frame}
use Rattle.stereo.specs.Extension.{phases_in, phases_of, phases, phase_flag, v0, another, part, announced, esc_count, extension_sent}
use Rattle.stereo.specs.Extension.{extension}
use Rattle.stereo.specs.Payload.{envelopes, payload}
use Rattle.stereo.specs.declared.Setup.{Setup}
use Rattle.stereo.specs.declared.State.{State}
use Rattle.stereo.specs.declared.Header.{Header}
use Rattle.stereo.specs.declared.Frame.{Frame}

-- the numbers of a payload
abbrev pub payload_refusals : List ℕ
payload_refusals = 10 ∷ 12 ∷ 13 ∷ 31 ∷ 32 ∷ 33 ∷ 34 ∷ []

abbrev own : ℕ → Bool
own = one_of payload_refusals

-- the laws of Numbered, at these numbers
give-own : {A : Type 0} (a : A) → Numbered own (give a)
give-own a = give-numbered own a

field-own : (k : ℕ) → Numbered own (field k)
field-own k = field-numbered own refl k

zero-own : Numbered own (zero_bit 13)
zero-own = zero_bit-numbered own refl 13 refl

bind_own : {A B : Type 0} (r : Reader A) (k : A → Reader B) → Numbered own r → ((a : A) → Numbered own (k a)) → Numbered own (r >>= k)
bind_own r k g h = bind-numbered own r k g h

expecting-own : {A : Type 0} (m : ℕ) (t : A → Bool) (r : Reader A) → own m ≡ true → Numbered own r → Numbered own (expecting m t r)
expecting-own m t r o g = expecting-numbered own m t r o g

pick-own : {A : Type 0} (b : Bool) (r q : Reader A) → Numbered own r → Numbered own q → Numbered own (pick b r q)
pick-own b r q g h = pick-numbered own b r q g h

listed-own : {A : Type 0} (f : List A → Reader A) → ((xs : List A) → Numbered own (f xs)) → (n : ℕ) → Numbered own (listed n f)
listed-own f g n = listed-numbered own f g n

ruleset owns = (bind_own, field-own, zero-own, give-own, expecting-own, pick-own, listed-own)

mode-own : (on : ℕ) → Numbered own (mode on)
unfolding mode
mode-own on = search owns depth 8

switch-own : Numbered own switch
unfolding switch
switch-own = search (owns, mode-own) depth 8

header-own : Numbered own header
unfolding header header_fields
header-own = search (owns, switch-own) depth 24

frame-own : Numbered own frame
unfolding frame borders borders_of
frame-own = search owns depth 24

difference-own : (k : Kind) (mode time : ℕ) → Numbered own (difference k mode time)
unfolding difference
difference-own = of_table (λ t. Numbered own (word_of t)) λ i h.
    word-numbered own refl (codes_of (table_at i)) (lens_of (table_at i)) (ruled-at i h)

row-own : (k : Kind) (mode : ℕ) (h : Record) → Numbered own (row k mode h)
unfolding row indices index index_from
row-own k mode h = search (owns, difference-own) depth 24

rows-own : (k : Kind) (on : Bool) (mode : ℕ) (h : Record) (n : ℕ) → Numbered own (rows k on mode h n)
unfolding rows rows_of
rows-own k on mode h n = search (owns, row-own) depth 12

phases-own : (on mode : ℕ) (ipd opd : Record) (n : ℕ) → Numbered own (phases on mode ipd opd n)
unfolding phases phases_of phases_in
phases-own on mode ipd opd n = search (owns, row-own) depth 16

v0-own : (mode : ℕ) (ipd opd : Record) (n : ℕ) → Numbered own (v0 mode ipd opd n)
unfolding v0 phase_flag
v0-own mode ipd opd n = search (owns, phases-own) depth 16

another-own : Numbered own another
unfolding another refuse_at
another-own = bind_own here _ (here-numbered own) λ place. bind_own (field 2) _ (field-own 2) λ id. id-own place (eqb id 0)
  where
    id-own : (place : ℕ) (b : Bool) → Numbered own {A = Fill} (λ s at end. refused (pick b 33 13) place)
    id-own place true = refusing-numbered own 33 (λ at. place) refl
    id-own place false = refusing-numbered own 13 (λ at. place) refl

part-own : (mode : ℕ) (ipd opd : Record) (n : ℕ) → Numbered own (part mode ipd opd n)
unfolding part
part-own mode ipd opd n =
    bind_own (v0 mode ipd opd n) _ (v0-own mode ipd opd n) λ b.
    bind_own (left_over 7 another) _ (left_over-numbered own 7 another another-own) λ fill. give-own _

announced-own : (mode : ℕ) (ipd opd : Record) (n size : ℕ) → Numbered own (announced mode ipd opd n size)
unfolding announced
announced-own mode ipd opd n size =
    pick-own (eqb size 0) _ _ (give-own _) (inside-numbered own (8 * size) 33 (part mode ipd opd n) refl refl (part-own mode ipd opd n))

extension-own : (on : Bool) (mode : ℕ) (ipd opd : Record) (n : ℕ) → Numbered own (extension on mode ipd opd n)
unfolding extension extension_sent esc_count
extension-own on mode ipd opd n = search (owns, announced-own) depth 16

envelopes-own : (st : State) (h : Header) (f : Setup) (fr : Frame) → Numbered own (envelopes st h f fr)
unfolding envelopes
envelopes-own st h f fr = search (owns, rows-own, extension-own) depth 24

pub payload-own : (st : State) → Numbered own (payload st)
unfolding payload
payload-own st = search (owns, header-own, frame-own, envelopes-own) depth 12

pub whole-own : (st : State) (s : List ℕ) (n p : ℕ) → whole (payload st) s ≡ refused n p → one_of payload_refusals n ≡ true
whole-own st s n p e = whole-numbered own (payload st) refl (payload-own st) s n p e

-- so no refusal has the number of a success
pub whole-not_0 : (st : State) (s : List ℕ) (n p : ℕ) → whole (payload st) s ≡ refused n p → n ≡ 0 → ⊥
whole-not_0 st s n p e z = true-false (own 0) (subst (λ (k : ℕ). own k ≡ true) z (whole-own st s n p e)) refl
