-- Everything that the stereo reader gives fits the bytes of the layout: four rows of each kind, of 34 indices, and each number a byte.
-- Assumes nothing.
use Prim.Native.Nat.{ℕ, ◌+◌, ◌*◌, ◌-◌, ◌<◌, ◌≤◌, ◌^◌}
use mathlib.Core.Path.{◌≡◌, refl, ◌∙◌}
use mathlib.Core.List.{List, [], ◌∷◌}
use mathlib.Core.Bool.{Bool, true, false, ◌||◌}
use native.Mathlib.Omega.{arith}
use borrow.Author.Tests.{leb-true, eqb-true}
use lib.Dec.{eqb, leb, ltb}
use lib.IntN.{ℤ, pos}
use lib.ListN.{length, get_or, take, drop, replicate, length-append, length-map, length-drop, length-replicate}
use lib.Seq.{length-take-le}
use lib.Pow.{pow_mono}
use mir.Syntax.{w8}
use mir.Val.{SFits, to_z}
use Rattle.bits.specs.Reader.{Reader, give, ◌>>=◌, pick, expecting}
use Rattle.bits.specs.Field.{field, zero_bit}
use Rattle.bits.specs.Loop.{listed}
use Rattle.bits.specs.Inside.{Fill, left_over}
use Rattle.bits.specs.Lists.{padded}
use Rattle.bits.proofs.Bools.{and_both}
use Rattle.bits.proofs.Signed.{fits}
use Rattle.bits.proofs.Spelt.{Every, every_append, every-replicate, every-at, left_over-spelt}
use Rattle.bits.proofs.Gives.{Gives, so_gives, give-gives, bind_gives, then_gives, map_gives, pick_gives, expecting_keeps}
use Rattle.bits.proofs.Gives.{field-gives, inside-gives, listed-gives}
use Rattle.stereo_indices.specs.Kind.{bands, least, most, within}
use Rattle.stereo_indices.specs.Record.{record_of, none, sound_mode, record_bands, sound_index, sound_from, sound_record}
use Rattle.stereo_indices.specs.Indices.{reference, index, indices}
use Rattle.stereo_indices.specs.Rows.{no_row, no_rows, record_after_rows, allowed, row, rows_of, rows}
use Rattle.stereo_indices.specs.declared.Kind.{Kind}
use Rattle.stereo_indices.specs.declared.Kind.TheVariants.{Iid, Icc, Ipd, Opd}
use Rattle.stereo_indices.specs.declared.Record.{Record}
use Rattle.stereo_indices.specs.declared.Row.{Row}
use Rattle.stereo_indices.proofs.KindLaws.{bands-le, within_abs, in_range_abs}
use Rattle.stereo_indices.proofs.IndexLaws.{index-ranged}
use Rattle.stereo.specs.Header.{no_header, mode, switch, header_fields, header, setup_after}
use Rattle.stereo.specs.Frame.{envelope_count, no_borders, borders_of, borders, frame}
use Rattle.stereo.specs.Extension.{no_phases, no_body, no_part, no_extension, phases_in, phases_next, phases_of, phases, has_mode}
use Rattle.stereo.specs.Extension.{phase_flag, v0}
use Rattle.stereo.specs.Extension.{another, part, announced, esc_count, extension_sent, extension}
use Rattle.stereo.specs.Payload.{envelopes, payload}
use Rattle.stereo.specs.State.{fresh_setup, fresh}
use Rattle.stereo.specs.Carried.{record_after, phase_records, carried_in, carried}
use Rattle.stereo.specs.declared.State.{State}
use Rattle.stereo.specs.declared.Contents.{Contents}
use Rattle.stereo.specs.declared.Switch.{Switch}
use Rattle.stereo.specs.declared.Part.{Part}
use Rattle.stereo.proofs.PayloadNear.{count-le}
use Rattle.stereo_laws.proofs.SoundLaws.{set-up, parts}
use Rattle.c_layout.proofs.StateLaws.{sound-parts}
use Rattle.stereo_writer.proofs.SpellingLaws.{another-spelt}
use Rattle.c_layout.specs.Indices.{indices_at}
use Rattle.c_layout.specs.StateBytes.{record_at, state_at, sound_bytes}
use Rattle.c_layout.proofs.BackLaws.{Fitting, zeros-fit, Fits, no_row-fits, as_row, StateFits}
use Rattle.c_layout.proofs.BackLaws.{HeaderFits, FrameFits, PhasesFit, ExtensionFits, ContentsFit}

-- four of something
abbrev Four : {A : Type 0} → (A → Type 0) → List A → Type 0
Four P xs = (length xs ≡ 4) × Every P xs

-- at most m of something, filled up to m
filled : {A : Type 0} (P : A → Type 0) (m : ℕ) (z : A) (xs : List A) → length xs ≤ m → P z → Every P xs
    → (length (padded m z xs) ≡ m) × Every P (padded m z xs)
filled P m z xs h p f = (
  rw (length-append xs (replicate (m - length xs) z), length-replicate (m - length xs) z) (omega arith),
  every_append P xs (replicate (m - length xs) z) f (every-replicate P (m - length xs) z p),
)

padded-fits : {A : Type 0} (P : A → Type 0) (f : List A → Reader A) → ((xs : List A) → Gives P (f xs)) → (z : A) (m n : ℕ)
    → n ≤ m → P z → Gives (λ xs. (length xs ≡ m) × Every P xs) (listed n f >>= λ xs. give (padded m z xs))
padded-fits P f g z m n h p = map_gives (padded m z) (listed-gives P f g n) λ xs q. filled P m z xs (omega (arith, q.0)) p q.1

-- indices and rows
indices-fit : (k : Kind) (m time : ℕ) (before : List ℤ) → Gives Fitting (indices k m time before)
unfolding indices index
indices-fit k m time before =
    so_gives (λ xs p. record { count = p.0; each = p.1 })
    (padded-fits (SFits w8) (index k m time before) each (pos 0) 34 (bands k m) (bands-le k m) (record { sfits = omega arith }))
  where
    each : (xs : List ℤ) → Gives (SFits w8) (index k m time before xs)
    each xs = record {
      law = λ s at end next y e.
          fits 15 (in_range_abs k m y (index-ranged k m time s at end (reference time before xs) y next e)) (omega arith);
    }

bit_gives : Gives (λ v. v < 256) (field 1)
bit_gives = so_gives (λ v h. omega arith) (field-gives 1)

row_fits : (k : Kind) (m : ℕ) (h : Record) → Gives Fits (row k m h)
unfolding row
row_fits k m h =
    bind_gives (expecting_keeps 31 (allowed h.mode m) bit_gives) λ time t.
    bind_gives (indices-fit k m time h.indices) λ xs p. give-gives (record { time = t; indices = p })

rows_fit : (k : Kind) (on : Bool) (m : ℕ) (h : Record) (n : ℕ) → n ≤ 4 → Gives (Four Fits) (rows k on m h n)
unfolding rows rows_of no_rows
rows_fit k on m h n l =
    pick_gives on (λ e. padded-fits Fits (λ rs. row k m (record_after_rows h m rs)) (λ rs. row_fits k m (record_after_rows h m rs))
    no_row 4 n l
    no_row-fits)
    (λ e. give-gives (refl, every-replicate Fits 4 no_row no_row-fits))

-- the header and the frame
mode-gives : (on : ℕ) → Gives (λ m. m < 256) (mode on)
unfolding mode
mode-gives on =
    pick_gives (eqb on 1) (λ e. expecting_keeps 13 (λ m. leb m 5) (so_gives (λ v h. omega arith) (field-gives 3)))
    (λ e. give-gives (omega arith))

abbrev SwitchFits : Switch → Type 0
SwitchFits x = (x.on < 256) × (x.mode < 256)

switch_fits : Gives SwitchFits switch
unfolding switch
switch_fits = bind_gives bit_gives λ on p. bind_gives (mode-gives on) λ m q. give-gives (p, q)

header-fits : Gives HeaderFits header
unfolding header header_fields no_header
header-fits =
    then_gives (field 1) λ there. pick_gives (eqb there 1)
    (λ e. bind_gives switch_fits λ iid p. bind_gives switch_fits λ icc q. bind_gives bit_gives λ ext r.
    give-gives (record { there = omega arith; iid = p.0; iidmode = p.1; icc = q.0; iccmode = q.1; ext = r }))
    (λ e. give-gives (record {
      there = omega arith;
      iid = omega arith;
      iidmode = omega arith;
      icc = omega arith;
      iccmode = omega arith;
      ext = omega arith;
    }))

borders-fit : (class n : ℕ) → n ≤ 4 → Gives (Four (λ b. b < 256)) (borders class n)
unfolding borders borders_of no_borders
borders-fit class n l =
    pick_gives (eqb class 1) (λ e. padded-fits (λ b. b < 256) (λ bs. field 5) (λ bs. so_gives (λ v h. omega arith) (field-gives 5)) 0 4 n l
    (omega arith))
    (λ e. give-gives (refl, every-replicate (λ b. b < 256) 4 0 (omega arith)))

frame-fits : Gives (λ fr. FrameFits fr × (fr.envelopes ≤ 4)) frame
unfolding frame
frame-fits =
    bind_gives bit_gives λ class p. bind_gives (field-gives 2) λ i q.
    let n = envelope_count class i in
    let l = count-le class i q in
    bind_gives (borders-fit class n l)
    λ bs f. give-gives (record { class = p; envelopes = omega arith; count = f.0; borders = f.1 }, l)

-- the extension
no_phases-fit : PhasesFit no_phases
unfolding no_phases
no_phases-fit = (no_row-fits, no_row-fits)

module _ (m : ℕ) (ipd opd : Record) (n : ℕ) (l : n ≤ 4) where
  phases_in-fit : (ipd opd : Record) → Gives PhasesFit (phases_in m ipd opd)
  unfolding phases_in
  phases_in-fit ipd opd = bind_gives (row_fits Ipd m ipd) λ a p. bind_gives (row_fits Opd m opd) λ b q. give-gives (p, q)

  phases-fit : (on : ℕ) → Gives (Four PhasesFit) (phases on m ipd opd n)
  unfolding phases phases_of
  phases-fit on =
      pick_gives (eqb on 1) (λ e. padded-fits PhasesFit (phases_next m ipd opd) (λ ps. phases_in-fit _ _) no_phases 4 n l no_phases-fit)
      (λ e. give-gives (refl, every-replicate PhasesFit 4 no_phases no_phases-fit))

  abbrev PartFits : Part → Type 0
  PartFits p = (p.body.phase < 256) × (p.count < 256) × (p.value < 256) × Four PhasesFit p.body.phases

  no-part-fits : PartFits no_part
  unfolding no_part no_body
  no-part-fits = (omega arith, omega arith, omega arith, (refl, every-replicate PhasesFit 4 no_phases no_phases-fit))

  fill_gives : Gives (λ (x : Fill). (x.count < 256) × (x.value < 256)) (left_over 7 another)
  fill_gives = record {
    law = λ s at end next x e.
        let w = ((left_over-spelt 7 another-spelt).law s at end next x e).4 in
        (omega arith, below x.value x.count w.0 w.1);
  }
    where
      below : (v k : ℕ) → k ≤ 7 → v < 2 ^ k → v < 256
      below v k h e = let w = pow_mono {i = k} {j = 7} h in omega arith

  part-fits : Gives PartFits (part m ipd opd n)
  unfolding part v0 phase_flag
  part-fits =
      bind_gives (bind_gives (then_gives (expecting 13 (λ v. eqb v 0) (field 2)) (λ id. expecting_keeps 34 (has_mode m) bit_gives))
      λ on p. bind_gives (phases-fit on)
      λ ps q. then_gives (zero_bit 13) {k = λ z. give _} (λ z. give-gives {P = λ b. (b.phase < 256) × Four PhasesFit b.phases} (p, q)))
      λ b p. bind_gives fill_gives λ fill q. give-gives (p.0, q.0, q.1, p.1)

  announced-fits : (size : ℕ) → Gives PartFits (announced m ipd opd n size)
  unfolding announced
  announced-fits size =
      pick_gives (eqb size 0) (λ e. give-gives no-part-fits) (λ e. inside-gives (8 * size) 33 (part m ipd opd n) part-fits)

  esc-gives : (size : ℕ) → Gives (λ v. v < 256) (esc_count size)
  unfolding esc_count
  esc-gives size = pick_gives (eqb size 15) (λ e. so_gives (λ v h. omega arith) (field-gives 8)) (λ e. give-gives (omega arith))

  extension-fits : (on : Bool) → Gives ExtensionFits (extension on m ipd opd n)
  unfolding extension extension_sent no_extension
  extension-fits on =
      pick_gives on (λ e. bind_gives {P = λ v. v < 256} (so_gives (λ v h. omega arith) (field-gives 4)) λ size s.
      bind_gives (esc-gives size) λ esc t. bind_gives (announced-fits (size + esc)) (λ p q. give-gives (fitting (omega arith) s t q)))
      (λ e. give-gives (fitting (omega arith) (omega arith) (omega arith) no-part-fits))
    where
      fitting : {there size esc : ℕ} {p : Part} → there < 256 → size < 256 → esc < 256 → PartFits p
          → ExtensionFits (record { there = there; size = size; esc = esc; part = p })
      fitting a b c q = record {
        there = a;
        size = b;
        esc = c;
        phase = q.0;
        count = q.1;
        value = q.2;
        four = q.3.0;
        phases = q.3.1;
      }

-- all of a payload
pub payload-fits : (st : State) → Gives ContentsFit (payload st)
unfolding payload envelopes
payload-fits st =
    bind_gives header-fits λ h p. bind_gives frame-fits λ fr q.
    let f = setup_after st.setup h in
    let n = fr.envelopes in
    bind_gives (rows_fit Iid f.iid f.iidmode st.iid n q.1)
    λ iid a. bind_gives (rows_fit Icc f.icc f.iccmode st.icc n q.1)
    λ icc b. bind_gives (extension-fits f.iidmode st.ipd st.opd n q.1 f.ext)
    λ x c. give-gives (record { header = p; frame = q.0; iids = a.0; iid = a.1; iccs = b.0; icc = b.1; extension = c })

-- states: the fresh one, one that is lost, one that bytes stand for, and one that is carried on
none-fits : Fits (as_row none)
unfolding none
none-fits = record { time = omega arith; indices = zeros-fit }

pub fresh-fits : StateFits fresh
unfolding fresh fresh_setup
fresh-fits = record {
  iidmode = omega arith;
  iccmode = omega arith;
  iid = none-fits;
  icc = none-fits;
  ipd = none-fits;
  opd = none-fits;
}

pick-below : (b : Bool) (x y : ℕ) → x < 256 → y < 256 → pick b x y < 256
pick-below true x y p q = p
pick-below false x y p q = q

record_fits : (on : Bool) (m : ℕ) (h : Record) (n : ℕ) (xs : List ℤ) → Fits (as_row h) → m < 256 → Fitting xs
    → Fits (as_row (record_after on m h n xs))
unfolding record_after
record_fits false m h n xs p q r = none-fits
record_fits true m h n xs p q r = go (eqb n 0)
  where
    go : (b : Bool) → Fits (as_row (pick b h (record_of m xs)))
    go true = p
    go false = record { time = q; indices = r }

pub carried-fits : (st : State) (c : Contents) → StateFits st → ContentsFit c → StateFits (carried st c)
unfolding carried carried_in phase_records setup_after
carried-fits st c f g =
    let n = c.frame.envelopes in
    let h = c.header in
    let b = c.extension.part.body in
    let iidmode = pick-below (eqb h.iid 1) h.iidmode st.setup.iidmode g.header.iidmode f.iidmode in
    let iccmode = pick-below (eqb h.icc 1) h.iccmode st.setup.iccmode g.header.iccmode f.iccmode in
    let last : (rs : List Row) → Every Fits rs → Fitting (get_or rs (n - 1) no_row).indices =
    λ rs e. (every-at Fits rs (n - 1) no_row e no_row-fits).indices in
    let q = every-at PhasesFit b.phases (n - 1) no_phases g.extension.phases no_phases-fit in
    record {
      iidmode = iidmode;
      iccmode = iccmode;
      iid = record_fits _ _ st.iid n _ f.iid iidmode (last c.iid g.iid);
      icc = record_fits _ _ st.icc n _ f.icc iccmode (last c.icc g.icc);
      ipd = record_fits _ _ st.ipd n _ f.ipd iidmode q.0.indices;
      opd = record_fits _ _ st.opd n _ f.opd iidmode q.1.indices;
    }

-- of a sound record of 34 indices
sound-mode-below : (m : ℕ) → sound_mode m ≡ true → m < 256
sound-mode-below m = go (leb m 5) (leb-true m 5)
  where
    go : (b : Bool) → (b ≡ true → m ≤ 5) → (b || eqb m 7) ≡ true → m < 256
    go true h e = let l = h refl in omega arith
    go false h e = let l = eqb-true m 7 e in omega arith

sound-each : (k : Kind) (m i : ℕ) (xs : List ℤ) → sound_from k m i xs ≡ true → Every (SFits w8) xs
unfolding sound_from sound_index
sound-each k m i [] e = tt
sound-each k m i (x ∷ xs) e =
    let w = and_both (sound_index k m i x) (sound_from k m (i + 1) xs) e in
    (index-fits (ltb i (record_bands k m)) w.0, sound-each k m (i + 1) xs w.1)
  where
    index-fits : (b : Bool) → pick b (within (least k m) (most k m) x) (within (pos 0) (pos 0) x) ≡ true → SFits w8 x
    index-fits true e = fits 15 (in_range_abs k m x e) (omega arith)
    index-fits false e = fits 0 (within_abs (pos 0) (pos 0) x 0 (omega arith) (omega arith) e) (omega arith)

record_at-fits : (k : Kind) (s : List ℕ) (at : ℕ) → at + 35 ≤ length s → sound_record k (record_at s at) ≡ true
    → Fits (as_row (record_at s at))
unfolding sound_record record_at indices_at
record_at-fits k s at h e =
    let w = and_both (sound_mode (get_or s at 0)) _ e in
    let l : length (take 34 (drop (at + 1) s)) ≡ 34 = length-take-le 34 (drop (at + 1) s) (rw (length-drop (at + 1) s) (omega arith)) in
    record {
      time = sound-mode-below (get_or s at 0) w.0;
      indices = record { count = length-map (take 34 (drop (at + 1) s)) (to_z w8) ∙ l; each = sound-each k (get_or s at 0) 0 _ w.1 };
    }

pub state-at-fits : (s : List ℕ) → sound_bytes s ≡ true → StateFits (state_at s)
unfolding state_at
state-at-fits s e =
    let h = (sound-parts s e).long in
    let p = parts (state_at s) (sound-parts s e).state in
    let u = set-up (state_at s).setup p.setup in
    record {
      iidmode = sound-mode-below (get_or s 3 0) u.iidmode;
      iccmode = sound-mode-below (get_or s 4 0) u.iccmode;
      iid = record_at-fits Iid s 6 (omega arith) p.iid;
      icc = record_at-fits Icc s 41 (omega arith) p.icc;
      ipd = record_at-fits Ipd s 76 (omega arith) p.ipd;
      opd = record_at-fits Opd s 111 (omega arith) p.opd;
    }
