-- A restart is read the same from any state, and leaves the same state.
-- Assumes nothing.
use Prim.Native.Nat.{ℕ, ◌+◌, ◌*◌, ◌≤◌}
use mathlib.Core.Path.{◌≡◌, refl, sym, ◌∙◌, ap, subst}
use mathlib.Core.List.{List, [], ◌∷◌}
use mathlib.Core.Bool.{Bool, true, false, not, ◌||◌, ◌&&◌}
use native.Mathlib.Omega.{arith}
use lib.Dec.{eqb}
use lib.ListN.{length, get_or, replicate}
use lib.IntN.{ℤ}
use borrow.Author.Tests.{eqb-true, leb-true, ne_eqb}
use Rattle.bits.specs.Reader.{got, give, ◌>>=◌, pick, expecting}
use Rattle.bits.specs.Field.{field, zero_bit}
use Rattle.bits.specs.Inside.{left_over}
use Rattle.bits.specs.Payload.{whole}
use Rattle.bits.proofs.Bools.{and_both}
use Rattle.bits.proofs.Lawful.{tested-got}
use Rattle.bits.proofs.Gives.{Gives, give-gives, then_gives}
use Rattle.bits.proofs.PayloadLaws.{whole-got, whole_is}
use Rattle.bits.specs.Lists.{padded}
use Rattle.stereo_indices.specs.Indices.{reference, index, indices}
use Rattle.stereo_indices.specs.Rows.{no_row, record_after_rows, allowed, row, rows_of, rows}
use Rattle.stereo_indices.specs.declared.Kind.{Kind}
use Rattle.stereo_indices.specs.declared.Kind.TheVariants.{Iid, Icc, Ipd, Opd}
use Rattle.stereo_indices.specs.declared.Record.{Record}
use Rattle.stereo_indices.specs.declared.Row.{Row}
use Rattle.stereo.specs.Header.{header, setup_after}
use Rattle.stereo.specs.Frame.{frame}
use Rattle.stereo.specs.Extension.{no_phases, phases_in, phases_next, phases_of, phases, phase_flag, v0, another, part, announced}
use Rattle.stereo.specs.Extension.{esc_count}
use Rattle.stereo.specs.Extension.{extension_sent, extension}
use Rattle.stereo.specs.Payload.{envelopes, payload}
use Rattle.stereo.specs.Carried.{record_after, phase_records, carried_in, carried}
use Rattle.stereo.specs.Restart.{across, phases_across, restart}
use Rattle.stereo.specs.declared.Setup.{Setup}
use Rattle.stereo.specs.declared.State.{State}
use Rattle.stereo.specs.declared.Header.{Header}
use Rattle.stereo.specs.declared.Frame.{Frame}
use Rattle.stereo.specs.declared.Phases.{Phases}
use Rattle.stereo.specs.declared.Contents.{Contents}
use Rattle.stereo_laws.proofs.Restarting.{Restart}
use Rattle.stereo_laws.proofs.Agree.{Agree, same-agree, bind_agree, then_agree, pick-agree, inside-agree, first-agree}

-- across frequency the record does not count
indices-agree : (k : Kind) (mode : ℕ) (xs ys : List ℤ) → indices k mode 0 ys ≡ indices k mode 0 xs
unfolding indices index reference
indices-agree k mode xs ys = refl

row-agree : (k : Kind) (mode : ℕ) (h h' : Record) → Agree (row k mode h) (row k mode h') (λ r. r.time ≡ 0)
unfolding row
row-agree k mode h h' =
    bind_agree {P = λ t. t ≡ 0} time-agree (λ t. then_gives (indices k mode t h.indices) λ xs. give-gives λ z. z) λ t z.
    subst
    (λ (t : ℕ). Agree {A = Row} (indices k mode t h.indices >>= λ xs. give (record { time = t; indices = xs }))
    (indices k mode t h'.indices >>= λ xs. give (record { time = t; indices = xs })) (λ r. r.time ≡ 0))
    (sym z) (record { law = λ s at end next c e p. rw (indices-agree k mode h.indices h'.indices) e })
  where
    time-agree : Agree (expecting 31 (allowed h.mode mode) (field 1)) (expecting 31 (allowed h'.mode mode) (field 1)) (λ t. t ≡ 0)
    time-agree = record {
      law = λ s at end next t e z.
          let w = tested-got (field 1 s at end) 31 (allowed h.mode mode) at next t e in
          rw (w.0, z);
    }

-- the first row of a kind is across frequency
first-across : (rs : List Row) (r : Row) (qs : List Row) → across (padded 4 no_row rs) ≡ true → rs ≡ r ∷ qs → r.time ≡ 0
first-across rs r qs a e = eqb-true r.time 0 (ap (λ (l : List Row). across (padded 4 no_row l)) (sym e) ∙ a)

rows_agree : (k : Kind) (on : Bool) (mode : ℕ) (h h' : Record) (n : ℕ)
    → Agree (rows k on mode h n) (rows k on mode h' n) (λ rs. across rs ≡ true)
unfolding rows rows_of
rows_agree k on mode h h' n =
    pick-agree on
    (bind_agree (first-agree (λ rs. row k mode (record_after_rows h mode rs)) (λ rs. row k mode (record_after_rows h' mode rs))
    (row-agree k mode h h') (λ x xs. refl) n)
    (λ rs. give-gives λ a r qs e. first-across rs r qs a e) λ rs _. same-agree)
    same-agree

-- the first phases are across frequency
next_agree : (mode : ℕ) (ipd ipd' opd opd' : Record)
    → Agree (phases_next mode ipd opd []) (phases_next mode ipd' opd' []) (λ p. (p.ipd.time ≡ 0) × (p.opd.time ≡ 0))
unfolding phases_in
next_agree mode ipd ipd' opd opd' =
    bind_agree (row-agree Ipd mode ipd ipd') (λ a. then_gives (row Opd mode opd) λ b. give-gives λ z. z.0) λ a _.
    bind_agree (row-agree Opd mode opd opd') (λ b. give-gives λ z. z.1) λ b _. same-agree

abbrev begin : List Phases → Bool
begin ps = eqb (get_or ps 0 no_phases).ipd.time 0 && eqb (get_or ps 0 no_phases).opd.time 0

first-begin : (ps : List Phases) (p : Phases) (qs : List Phases) → begin (padded 4 no_phases ps) ≡ true → ps ≡ p ∷ qs
    → (p.ipd.time ≡ 0) × (p.opd.time ≡ 0)
first-begin ps p qs a e =
    let w = and_both (eqb p.ipd.time 0) (eqb p.opd.time 0) (ap (λ (l : List Phases). begin (padded 4 no_phases l)) (sym e) ∙ a) in
    (eqb-true p.ipd.time 0 w.0, eqb-true p.opd.time 0 w.1)

phases_of-agree : (mode : ℕ) (ipd ipd' opd opd' : Record) (n : ℕ)
    → Agree (phases_of mode ipd opd n) (phases_of mode ipd' opd' n) (λ ps. begin ps ≡ true)
unfolding phases_of
phases_of-agree mode ipd ipd' opd opd' n =
    bind_agree (first-agree (phases_next mode ipd opd) (phases_next mode ipd' opd') (next_agree mode ipd ipd' opd opd') (λ x xs. refl) n)
    (λ ps. give-gives λ a p qs e. first-begin ps p qs a e) λ ps _. same-agree

phases-agree : (on mode : ℕ) (ipd ipd' opd opd' : Record) (n : ℕ)
    → Agree (phases on mode ipd opd n) (phases on mode ipd' opd' n) (λ ps. (not (eqb on 1) || begin ps) ≡ true)
unfolding phases
phases-agree on mode ipd ipd' opd opd' n = go (eqb on 1)
  where
    go : (b : Bool)
        → Agree (pick b (phases_of mode ipd opd n) (give (replicate 4 no_phases)))
        (pick b (phases_of mode ipd' opd' n) (give (replicate 4 no_phases)))
        (λ ps. (not b || begin ps) ≡ true)
    go true = phases_of-agree mode ipd ipd' opd opd' n
    go false = same-agree

v0-agree : (mode : ℕ) (ipd ipd' opd opd' : Record) (n : ℕ) → Agree (v0 mode ipd opd n) (v0 mode ipd' opd' n) (λ b. phases_across b ≡ true)
unfolding v0 phases_across
v0-agree mode ipd ipd' opd opd' n =
    then_agree (phase_flag mode) λ phase.
    bind_agree (phases-agree phase mode ipd ipd' opd opd' n) (λ ps. then_gives (zero_bit 13) λ reserved. give-gives λ z. z) λ ps _.
    same-agree

part-agree : (mode : ℕ) (ipd ipd' opd opd' : Record) (n : ℕ)
    → Agree (part mode ipd opd n) (part mode ipd' opd' n) (λ p. phases_across p.body ≡ true)
unfolding part
part-agree mode ipd ipd' opd opd' n =
    bind_agree (v0-agree mode ipd ipd' opd opd' n) (λ b. then_gives (left_over 7 another) λ fill. give-gives λ z. z) λ b _. same-agree

extension-agree : (on : Bool) (mode : ℕ) (ipd ipd' opd opd' : Record) (n : ℕ)
    → Agree (extension on mode ipd opd n) (extension on mode ipd' opd' n) (λ x. phases_across x.part.body ≡ true)
unfolding extension extension_sent announced
extension-agree on mode ipd ipd' opd opd' n =
    pick-agree on
    (then_agree (field 4) λ size. then_agree (esc_count size) λ esc.
    bind_agree (pick-agree (eqb (size + esc) 0) same-agree (inside-agree (8 * (size + esc)) 33 (part-agree mode ipd ipd' opd opd' n)))
    (λ p. give-gives λ z. z) λ p _. same-agree)
    same-agree

pub restart-is : (c : Contents) → restart c ≡ true → Restart c
unfolding restart
restart-is c e =
    let f = and_both _ _ e in
    let g = and_both _ _ f.0 in
    let h = and_both _ _ g.0 in
    let i = and_both _ _ h.0 in
    let j = and_both _ _ i.0 in
    let k = and_both _ _ j.0 in
    record { there = k.0; iid-on = k.1; icc-on = j.1; some = leb-true _ _ i.1; iid = h.1; icc = g.1; phases = f.1 }

-- with such a header nothing of the old set-up stays
setup-agree : (f g : Setup) (h : Header) → eqb h.there 1 ≡ true → eqb h.iid 1 ≡ true → eqb h.icc 1 ≡ true
    → setup_after f h ≡ setup_after g h
unfolding setup_after
setup-agree f g h a b c = rw (a, b, c)

envelopes-agree : (st st' : State) (h : Header) (f : Setup) (fr : Frame) → Agree (envelopes st h f fr) (envelopes st' h f fr) Restart
unfolding envelopes
envelopes-agree st st' h f fr =
    bind_agree (rows_agree Iid f.iid f.iidmode st.iid st'.iid fr.envelopes)
    (λ iid. then_gives (rows Icc f.icc f.iccmode st.icc fr.envelopes) λ icc.
    then_gives (extension f.ext f.iidmode st.ipd st.opd fr.envelopes) λ x. give-gives λ z. z.iid) λ iid _.
    bind_agree (rows_agree Icc f.icc f.iccmode st.icc st'.icc fr.envelopes)
    (λ icc. then_gives (extension f.ext f.iidmode st.ipd st.opd fr.envelopes) λ x. give-gives λ z. z.icc) λ icc _.
    bind_agree (extension-agree f.ext f.iidmode st.ipd st'.ipd st.opd st'.opd fr.envelopes)
    (λ x. give-gives λ z. z.phases) λ x _. same-agree

envelopes-header : (st : State) (h : Header) (f : Setup) (fr : Frame) → Gives (λ c. c.header ≡ h) (envelopes st h f fr)
unfolding envelopes
envelopes-header st h f fr =
    then_gives (rows Iid f.iid f.iidmode st.iid fr.envelopes) λ iid.
    then_gives (rows Icc f.icc f.iccmode st.icc fr.envelopes) λ icc.
    then_gives (extension f.ext f.iidmode st.ipd st.opd fr.envelopes) λ x. give-gives refl

payload-agree : (st st' : State) → Agree (payload st) (payload st') Restart
unfolding payload
payload-agree st st' =
    then_agree header λ h. then_agree frame λ fr. record {
      law = λ s at end next c e a.
          let q : c.header ≡ h = (envelopes-header st h (setup_after st.setup h) fr).law s at end next c e in
          let g : setup_after st'.setup h ≡ setup_after st.setup h =
          subst (λ (g : Header). setup_after st'.setup g ≡ setup_after st.setup g) q
          (setup-agree st'.setup st.setup c.header a.there a.iid-on a.icc-on) in
          rw g ((envelopes-agree st st' h (setup_after st.setup h) fr).law s at end next c e a);
    }

-- a restart is read the same from any state
pub same_read : (st st' : State) (s : List ℕ) (c : Contents) (n : ℕ) → whole (payload st) s ≡ got c n → restart c ≡ true
    → whole (payload st') s ≡ got c n
same_read st st' s c n e r =
    let w = whole-got (payload st) s n c e in
    whole_is (payload st') s n c ((payload-agree st st').law s 0 (8 * length s) n c w.0 (restart-is c r)) w.1

-- and leaves the same state
carried_in-agree : (st st' : State) (c : Contents) (f : Setup) → 1 ≤ c.frame.envelopes → carried_in st c f ≡ carried_in st' c f
unfolding carried_in phase_records record_after
carried_in-agree st st' c f l = rw (ne_eqb c.frame.envelopes 0 (omega arith))

pub same-carried : (st st' : State) (c : Contents) → restart c ≡ true → carried st c ≡ carried st' c
unfolding carried
same-carried st st' c r =
    let a = restart-is c r in
    ap (carried_in st c) (setup-agree st.setup st'.setup c.header a.there a.iid-on a.icc-on)
    ∙ carried_in-agree st st' c (setup_after st'.setup c.header) a.some
