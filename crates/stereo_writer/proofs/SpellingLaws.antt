-- Read, then spelled: the bits of a payload that was read are the spelling of its contents.
-- Assumes nothing.
use Prim.Native.Nat.{ℕ, zero, suc, ◌+◌, ◌*◌, ◌-◌, ◌%◌, ◌<◌, min}
use mathlib.Core.Path.{◌≡◌, refl, ◌∙◌, ap}
use mathlib.Core.List.{List, [], ◌++◌, append_assoc}
use mathlib.Core.Bool.{Bool, true, false}
use native.Mathlib.Omega.{arith}
use lib.Dec.{eqb, leb}
use lib.ListN.{length, take, replicate}
use lib.Seq.{take_at}
use lib.IntN.{ℤ, pos, nat_abs, ◌+ℤ◌, ◌-ℤ◌, +ℤ_comm, +ℤ-neg_ℤ_cancel, -ℤ-+ℤ_cancel}
use borrow.Author.Tests.{eqb-true}
use Rattle.bits.specs.Reader.{Reader, give, ◌>>=◌, pick, expecting}
use Rattle.bits.specs.Field.{field, zero_bit}
use Rattle.bits.specs.Loop.{listed}
use Rattle.bits.specs.Inside.{inside}
use Rattle.bits.specs.Pieces.{Piece}
use Rattle.bits.proofs.Bools.{true-false}
use Rattle.bits.proofs.Spelt.{Spelt, told, respelt, give-spelt, bind_spelt, field-spelt, expecting-spelt, pick-spelt, listed-spelt}
use Rattle.bits.proofs.Spelt.{here-spelt, refuse_at-spelt, left_over-spelt, inside-spelt, Filled}
use Rattle.bits.specs.Spelled.{spell_each, spell_fill}
use Rattle.tables.specs.Tables.{codes_of, lens_of}
use Rattle.tables.specs.GeneratedNames.{phase_frequency, phase_time, overall_phase_frequency, overall_phase_time}
use Rattle.tables.specs.GeneratedWords.{all_codes}
use Rattle.words.proofs.WordLaws.{word-spelt}
use Rattle.stereo_indices.specs.Kind.{is_phase, bands}
use Rattle.stereo_indices.specs.Difference.{difference_table, difference, middle, added}
use Rattle.bits.specs.Lists.{padded}
use Rattle.stereo_indices.specs.Indices.{reference, index_from, index, indices}
use Rattle.stereo_indices.specs.Rows.{no_row, record_after_rows, row, rows_of, rows}
use Rattle.stereo_indices.specs.declared.Kind.{Kind}
use Rattle.stereo_indices.specs.declared.Kind.TheVariants.{Iid, Icc, Ipd, Opd}
use Rattle.stereo_indices.specs.declared.Record.{Record}
use Rattle.stereo.specs.Header.{no_header, mode, switch, header_fields, header, setup_after}
use Rattle.stereo.specs.Frame.{envelope_count, no_borders, borders_of, borders, frame}
use Rattle.stereo.specs.Extension.{no_phases, no_part, ipds, opds, phases_in, phases_next, phases_of, phases, phase_flag, v0, another, part}
use Rattle.stereo.specs.Extension.{announced, esc_count, extension_sent, extension}
use Rattle.stereo.specs.Payload.{envelopes, payload}
use Rattle.stereo.specs.declared.Setup.{Setup}
use Rattle.stereo.specs.declared.State.{State}
use Rattle.stereo.specs.declared.Header.{Header}
use Rattle.stereo.specs.declared.Frame.{Frame}
use Rattle.stereo.specs.declared.Phases.{Phases}
use Rattle.stereo.specs.declared.Contents.{Contents}
use Rattle.stereo.proofs.PayloadLaws.{part-filling}
use Rattle.stereo_writer.specs.Spelling.{bit_field, spell_mode, spell_fields, spell_header, count_index, spell_border, spell_borders}
use Rattle.stereo_writer.specs.Spelling.{spell_frame, entry_to, spell_index, spell_row, spell_rows, spell_phases, spell_all_phases}
use Rattle.stereo_writer.specs.Spelling.{spell_body, spell_part, spell_announced, spell_sent, spell_extension, spelling_in, spelling}

-- nothing more is known
abbrev Any : {A : Type 0} → A → Type 0
Any a = Unit

-- readings in a list, filled up to N places
padded-spelt : {A : Type 0} {f : List A → Reader A} {w : List A → A → List Piece} (N : ℕ) (z : A)
    → ((xs : List A) → Spelt (f xs) [] (w xs) Any) → (n : ℕ)
    → Spelt (listed n f >>= λ xs. give (padded N z xs)) [] (λ a. spell_each w [] (take n a)) Any
padded-spelt {w = w} N z g n =
    bind_spelt (listed-spelt Any g n) λ xs o.
    give-spelt (ap (spell_each w []) (take_at xs (replicate (N - length xs) z) n o.0)) tt

-- the entry comes back from the two indices: of phases, which have 8 words
phase-back : (r e : ℕ) → e < 8 → ((r + e) % 8 + 8 - r % 8) % 8 ≡ e
phase-back r e h = omega arith

-- the entry of a difference that is no phase comes back
entry_back : (p : ℤ) (e b : ℕ) → nat_abs (p +ℤ (pos e -ℤ pos b) -ℤ p +ℤ pos b) ≡ e
entry_back p e b =
    ap nat_abs (ap (λ (z : ℤ). z -ℤ p +ℤ pos b) (+ℤ_comm p (pos e -ℤ pos b))
    ∙ ap (λ (z : ℤ). z +ℤ pos b) (+ℤ-neg_ℤ_cancel (pos e -ℤ pos b) p)
    ∙ -ℤ-+ℤ_cancel (pos e) (pos b))

-- the tables of phases have 8 words
eight : (k : Kind) (mode time : ℕ) → is_phase k ≡ true → length (codes_of (difference_table k mode time)) ≡ 8
unfolding difference_table all_codes
eight Iid mode time e = absurd (true-false false e refl)
eight Icc mode time e = absurd (true-false false e refl)
eight Ipd mode time e = go (eqb time 1)
  where
    go : (t : Bool) → length (codes_of (pick t phase_time phase_frequency)) ≡ 8
    go true = refl
    go false = refl
eight Opd mode time e = go (eqb time 1)
  where
    go : (t : Bool) → length (codes_of (pick t overall_phase_time overall_phase_frequency)) ≡ 8
    go true = refl
    go false = refl

entry_is : (k : Kind) (mode time : ℕ) (x : ℤ) (e : ℕ) → e < length (codes_of (difference_table k mode time))
    → entry_to k mode x (added k mode x e) ≡ e
unfolding entry_to added
entry_is k mode time x e h = go (is_phase k) refl
  where
    go : (t : Bool) → is_phase k ≡ t
        → pick t ((nat_abs (pick t (pos ((nat_abs x + e) % 8)) (x +ℤ (pos e -ℤ pos (middle k mode)))) + 8 - nat_abs x % 8) % 8)
        (nat_abs (pick t (pos ((nat_abs x + e) % 8)) (x +ℤ (pos e -ℤ pos (middle k mode))) -ℤ x +ℤ pos (middle k mode))) ≡ e
    go true q = phase-back (nat_abs x) e (omega (arith, eight k mode time q))
    go false q = entry_back x e (middle k mode)

index-spelt : (k : Kind) (mode time : ℕ) (before xs : List ℤ)
    → Spelt (index k mode time before xs) [] (spell_index k mode time before xs) Any
unfolding index index_from difference
index-spelt k mode time before xs =
    let t = difference_table k mode time in
    bind_spelt (expecting-spelt 32 _ (word-spelt (codes_of t) (lens_of t))) λ e o.
    give-spelt (rw (entry_is k mode time (reference time before xs) e o.0.0)) tt

row-spelt : (k : Kind) (mode : ℕ) (h : Record) → Spelt (row k mode h) [] (spell_row k mode h) Any
unfolding row spell_row indices
row-spelt k mode h =
    bind_spelt (expecting-spelt 31 _ (field-spelt 1)) λ time _.
    bind_spelt (padded-spelt 34 (pos 0) (index-spelt k mode time h.indices) (bands k mode)) λ xs _.
    give-spelt refl tt

rows-spelt : (k : Kind) (on : Bool) (mode : ℕ) (h : Record) (n : ℕ) → Spelt (rows k on mode h n) [] (spell_rows k on mode h n) Any
unfolding rows rows_of spell_rows
rows-spelt k true mode h n = padded-spelt 4 no_row (λ done. row-spelt k mode (record_after_rows h mode done)) n
rows-spelt k false mode h n = give-spelt refl tt

-- the header
mode-spelt : (on : ℕ) → Spelt (mode on) [] (spell_mode on) Any
unfolding mode spell_mode
mode-spelt on = go (eqb on 1)
  where
    go : (b : Bool) → Spelt (pick b (expecting 13 (λ m. leb m 5) (field 3)) (give 0)) [] (λ m. pick b (bit_field m 3) []) Any
    go true = told refl (λ m o. tt) (expecting-spelt 13 _ (field-spelt 3))
    go false = give-spelt refl tt

switch-spelt : Spelt switch [] (λ x. bit_field x.on 1 ++ spell_mode x.on x.mode) Any
unfolding switch
switch-spelt = bind_spelt (field-spelt 1) λ on _. bind_spelt (mode-spelt on) λ m _. give-spelt refl tt

-- two pairs and one more, as five
regrouped : {A : Type 0} (o a b c d e : List A) → o ++ (a ++ b ++ c ++ d ++ e) ≡ o ++ (a ++ b) ++ (c ++ d) ++ e
regrouped o a b c d e = simp append_assoc

fields_spelt : (there : ℕ) → there ≡ 1 → Spelt header_fields (bit_field there 1) spell_header Any
unfolding header_fields spell_header spell_fields
fields_spelt there q =
    bind_spelt switch-spelt λ iid _.
    bind_spelt switch-spelt λ icc _.
    bind_spelt (field-spelt 1) λ ext _.
    let a = bit_field iid.on 1 in
    let b = spell_mode iid.on iid.mode in
    let c = bit_field icc.on 1 in
    let d = spell_mode icc.on icc.mode in
    give-spelt (rw q (regrouped (bit_field 1 1) a b c d (bit_field ext 1))) tt

none-spelt : (there : ℕ) → there < 2 → eqb there 1 ≡ false → Spelt (give no_header) ([] ++ bit_field there 1) spell_header Any
unfolding spell_header no_header
none-spelt zero l e = give-spelt refl tt
none-spelt (suc zero) l e = absurd (true-false true refl e)
none-spelt (suc (suc n)) l e = absurd (omega arith)

header-spelt : Spelt header [] spell_header Any
unfolding header
header-spelt =
    bind_spelt (field-spelt 1) λ there l.
    pick-spelt (eqb there 1) (λ e. fields_spelt there (eqb-true there 1 e)) (λ e. none-spelt there l e)

-- the frame
borders-spelt : (class n : ℕ) → Spelt (borders class n) [] (spell_borders class n) Any
unfolding borders borders_of spell_borders
borders-spelt class n = go (eqb class 1)
  where
    go : (b : Bool)
        → Spelt (pick b (listed n (λ bs. field 5) >>= λ bs. give (padded 4 0 bs)) (give no_borders)) []
        (λ bs. pick b (spell_each spell_border [] (take n bs)) []) Any
    go true = padded-spelt 4 0 (λ bs. told refl (λ m o. tt) (field-spelt 5)) n
    go false = give-spelt refl tt

count-back : (class i : ℕ) → i < 4 → count_index class (envelope_count class i) ≡ i
unfolding count_index envelope_count
count-back class i h = go (eqb class 1) i h
  where
    go : (b : Bool) (i : ℕ) → i < 4
        → pick b (min (pick b (i + 1) (pick (eqb i 3) 4 i)) 4 - 1)
        (pick (eqb (pick b (i + 1) (pick (eqb i 3) 4 i)) 4) 3 (min (pick b (i + 1) (pick (eqb i 3) 4 i)) 4)) ≡ i
    go true i l = omega arith
    go false zero l = refl
    go false (suc zero) l = refl
    go false (suc (suc zero)) l = refl
    go false (suc (suc (suc zero))) l = refl
    go false (suc (suc (suc (suc n)))) l = absurd (omega arith)

frame-spelt : Spelt frame [] spell_frame Any
unfolding frame spell_frame
frame-spelt =
    bind_spelt (field-spelt 1) λ class _.
    bind_spelt (field-spelt 2) λ i l.
    bind_spelt (borders-spelt class (envelope_count class i)) λ bs _.
    give-spelt (rw (count-back class i l)) tt

-- the extension
phases-spelt : (mode : ℕ) (ipd opd : Record) (done : List Phases)
    → Spelt (phases_next mode ipd opd done) [] (spell_phases mode ipd opd done) Any
unfolding phases_in
phases-spelt mode ipd opd done =
    bind_spelt (row-spelt Ipd mode (record_after_rows ipd mode (ipds done))) λ a _.
    bind_spelt (row-spelt Opd mode (record_after_rows opd mode (opds done))) λ b _.
    give-spelt refl tt

all_phases_spelt : (on mode : ℕ) (ipd opd : Record) (n : ℕ) → Spelt (phases on mode ipd opd n) [] (spell_all_phases on mode ipd opd n) Any
unfolding phases phases_of spell_all_phases
all_phases_spelt on mode ipd opd n = go (eqb on 1)
  where
    go : (b : Bool)
        → Spelt (pick b (listed n (phases_next mode ipd opd) >>= λ ps. give (padded 4 no_phases ps)) (give (replicate 4 no_phases))) []
        (λ ps. pick b (spell_each (spell_phases mode ipd opd) [] (take n ps)) []) Any
    go true = padded-spelt 4 no_phases (phases-spelt mode ipd opd) n
    go false = give-spelt refl tt

flag-spelt : (mode : ℕ) → Spelt (phase_flag mode) [] (λ on. bit_field 0 2 ++ bit_field on 1) Any
unfolding phase_flag
flag-spelt mode =
    bind_spelt (expecting-spelt 13 _ (field-spelt 2)) λ id z.
    told refl (λ on o. tt) (respelt (λ on o. rw (eqb-true id 0 z.1)) (expecting-spelt 34 _ (field-spelt 1)))

v0-spelt : (mode : ℕ) (ipd opd : Record) (n : ℕ) → Spelt (v0 mode ipd opd n) [] (spell_body mode ipd opd n) Any
unfolding v0 spell_body zero_bit
v0-spelt mode ipd opd n =
    bind_spelt (flag-spelt mode) λ phase _.
    bind_spelt (all_phases_spelt phase mode ipd opd n) λ ps _.
    bind_spelt (expecting-spelt 13 _ (field-spelt 1)) λ reserved y.
    give-spelt (rw (eqb-true reserved 0 y.1)) tt

-- another id is never accepted
pub another-spelt : Spelt another [] spell_fill (Filled 7)
unfolding another
another-spelt = bind_spelt here-spelt λ place _. bind_spelt (field-spelt 2) λ id _. refuse_at-spelt (pick (eqb id 0) 33 13) place

part-spelt : (mode : ℕ) (ipd opd : Record) (n : ℕ) → Spelt (part mode ipd opd n) [] (spell_part mode ipd opd n) Any
unfolding part spell_part
part-spelt mode ipd opd n =
    bind_spelt (v0-spelt mode ipd opd n) λ b _.
    bind_spelt (left_over-spelt 7 another-spelt) λ fill o.
    give-spelt (let q : min fill.count 7 ≡ fill.count = omega arith in rw q) tt

announced-spelt : (mode : ℕ) (ipd opd : Record) (n size : ℕ)
    → Spelt (announced mode ipd opd n size) [] (spell_announced mode ipd opd n size) Any
unfolding announced spell_announced
announced-spelt mode ipd opd n size = go (eqb size 0)
  where
    go : (b : Bool)
        → Spelt (pick b (give no_part) (inside (8 * size) 33 (part mode ipd opd n))) [] (λ p. pick b [] (spell_part mode ipd opd n p)) Any
    go true = give-spelt refl tt
    go false = told refl (λ p o. tt) (inside-spelt (8 * size) 33 (part-filling mode ipd opd n) (part-spelt mode ipd opd n))

esc-spelt : (size : ℕ) → Spelt (esc_count size) [] (λ esc. pick (eqb size 15) (bit_field esc 8) []) Any
unfolding esc_count
esc-spelt size = go (eqb size 15)
  where
    go : (b : Bool) → Spelt (pick b (field 8) (give 0)) [] (λ esc. pick b (bit_field esc 8) []) Any
    go true = told refl (λ m o. tt) (field-spelt 8)
    go false = give-spelt refl tt

extension-spelt : (on : Bool) (mode : ℕ) (ipd opd : Record) (n : ℕ)
    → Spelt (extension on mode ipd opd n) [] (spell_extension on mode ipd opd n) Any
unfolding extension extension_sent spell_extension spell_sent
extension-spelt true mode ipd opd n =
    bind_spelt (field-spelt 4) λ size _.
    bind_spelt (esc-spelt size) λ esc _.
    bind_spelt (announced-spelt mode ipd opd n (size + esc)) λ p _.
    give-spelt refl tt
extension-spelt false mode ipd opd n = give-spelt refl tt

-- the whole
envelopes-spelt : (st : State) (h : Header) (f : Setup) (fr : Frame)
    → Spelt (envelopes st h f fr) (spell_header h ++ spell_frame fr) (spelling_in st f) (λ c. c.header ≡ h)
unfolding envelopes spelling_in
envelopes-spelt st h f fr =
    bind_spelt (rows-spelt Iid f.iid f.iidmode st.iid fr.envelopes) λ iid _.
    bind_spelt (rows-spelt Icc f.icc f.iccmode st.icc fr.envelopes) λ icc _.
    bind_spelt (extension-spelt f.ext f.iidmode st.ipd st.opd fr.envelopes) λ x _.
    give-spelt refl refl

pub payload-spelt : (st : State) → Spelt (payload st) [] (spelling st) Any
unfolding payload spelling
payload-spelt st =
    bind_spelt header-spelt λ h _.
    bind_spelt frame-spelt λ fr _.
    told refl (λ c o. tt) (spelled (setup_after st.setup) h (envelopes-spelt st h (setup_after st.setup h) fr))
  where
    -- the header that was read is the contents' own
    spelled : (after : Header → Setup) (h : Header) {r : Reader Contents} {before : List Piece}
        → Spelt r before (spelling_in st (after h)) (λ c. c.header ≡ h)
        → Spelt r before (λ c. spelling_in st (after c.header) c) (λ c. c.header ≡ h)
    spelled after h g = record {
      law = λ s at end next c q.
          let x = g.law s at end next c q in
          (x.0, ap (λ (k : Header). spelling_in st (after k) c) x.4 ∙ x.1, x.2, x.3, x.4);
    }
