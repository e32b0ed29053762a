-- What is accepted from a sound state leaves a sound state.
-- Assumes nothing.
use Prim.Native.Nat.{ℕ, zero, suc, ◌+◌, ◌*◌, ◌-◌, ◌<◌, ◌≤◌}
use mathlib.Core.Path.{◌≡◌, refl, subst}
use mathlib.Core.List.{List, [], ◌∷◌, ◌++◌}
use mathlib.Core.Bool.{Bool, true, false, not, ◌||◌}
use native.Mathlib.Omega.{arith}
use borrow.Author.Tests.{leb-true, eqb-true, ne_eqb, lt-ltb, not-true}
use lib.Dec.{eqb, leb, ltb}
use lib.ListN.{length, get_or, replicate}
use lib.IntN.{ℤ, pos, negsuc}
use Rattle.bits.specs.Reader.{got, Reader, give, ◌>>=◌, pick, expecting}
use Rattle.bits.specs.Field.{field, zero_bit}
use Rattle.bits.specs.Loop.{listed}
use Rattle.bits.specs.Inside.{left_over}
use Rattle.bits.specs.Payload.{whole}
use Rattle.bits.proofs.Bools.{and_both, true-false, and_of}
use Rattle.bits.proofs.Spelt.{Every, every_append, every-replicate, every-at}
use Rattle.bits.proofs.Gives.{Gives, give-gives, bind_gives, then_gives, map_gives, pick_gives, expecting-gives, inside-gives, listed-gives}
use Rattle.bits.proofs.PayloadLaws.{whole-got}
use Rattle.stereo_indices.specs.Kind.{fine, bands, least, most, within, in_range}
use Rattle.stereo_indices.specs.Record.{zeros, is_none, record_of, none, sound_mode, record_bands, sound_index, sound_from, sound_record}
use Rattle.bits.specs.Lists.{padded}
use Rattle.stereo_indices.specs.Indices.{reference, index, indices}
use Rattle.stereo_indices.specs.Rows.{no_row, no_rows, record_after_rows, allowed, row, rows_of, rows}
use Rattle.stereo_indices.specs.declared.Kind.{Kind}
use Rattle.stereo_indices.specs.declared.Kind.TheVariants.{Iid, Icc, Ipd, Opd}
use Rattle.stereo_indices.specs.declared.Record.{Record}
use Rattle.stereo_indices.specs.declared.Row.{Row}
use Rattle.stereo_indices.proofs.IndexLaws.{index-ranged}
use Rattle.stereo.specs.State.{is_sent, sound_setup, sound}
use Rattle.stereo.specs.Header.{no_header, mode, switch, header_fields, header, setup_after}
use Rattle.stereo.specs.Frame.{frame}
use Rattle.stereo.specs.Extension.{no_phases, no_body, no_part, no_extension, phases_in, phases_next, phases_of, phases, has_mode}
use Rattle.stereo.specs.Extension.{phase_flag, v0}
use Rattle.stereo.specs.Extension.{another, part, announced, esc_count, extension_sent, extension}
use Rattle.stereo.specs.Payload.{envelopes, payload}
use Rattle.stereo.specs.Carried.{record_after, phase_records, carried_in, carried}
use Rattle.stereo.specs.declared.Setup.{Setup}
use Rattle.stereo.specs.declared.State.{State}
use Rattle.stereo.specs.declared.Header.{Header}
use Rattle.stereo.specs.declared.Phases.{Phases}
use Rattle.stereo.specs.declared.Body.{Body}
use Rattle.stereo.specs.declared.Part.{Part}
use Rattle.stereo.specs.declared.Extension.{Extension}
use Rattle.stereo.specs.declared.Contents.{Contents}

or_left : (a b : Bool) → a ≡ true → (a || b) ≡ true
or_left true b p = refl
or_left false b p = absurd (true-false false p refl)

-- n readings, filled up
pub padded-gives : {A : Type 0} (P : A → Type 0) (f : List A → Reader A) → ((xs : List A) → Gives P (f xs)) → (z : A) (m n : ℕ) → P z
    → Gives (Every P) (listed n f >>= λ xs. give (padded m z xs))
padded-gives P f g z m n p =
    map_gives (padded m z) (listed-gives P f g n) λ xs q.
    every_append P xs (replicate (m - length xs) z) q.1 (every-replicate P (m - length xs) z p)

-- 0 is in every range
ranged : (k : Kind) (m : ℕ) → in_range k m (pos 0) ≡ true
unfolding within least most
ranged Iid m = go (fine m)
  where
    go : (b : Bool) → within (pick b (negsuc 14) (negsuc 6)) (pick b (pos 15) (pos 7)) (pos 0) ≡ true
    go true = refl
    go false = refl
ranged Icc m = refl
ranged Ipd m = refl
ranged Opd m = refl

module _ (k : Kind) (m : ℕ) where
  rest-index : (i : ℕ) → sound_index k m i (pos 0) ≡ true
  unfolding sound_index within
  rest-index i = go (ltb i (record_bands k m))
    where
      go : (b : Bool) → pick b (in_range k m (pos 0)) (within (pos 0) (pos 0) (pos 0)) ≡ true
      go true = ranged k m
      go false = refl

  rest-sound : (i n : ℕ) → sound_from k m i (replicate n (pos 0)) ≡ true
  unfolding sound_from
  rest-sound i zero = refl
  rest-sound i (suc n) = and_of (sound_index k m i (pos 0)) _ (rest-index i) (rest-sound (i + 1) n)

  index-sound : (i : ℕ) (x : ℤ) → is_none m ≡ false → i < bands k m → in_range k m x ≡ true → sound_index k m i x ≡ true
  unfolding sound_index
  index-sound i x o h e = rw (o, lt-ltb i (bands k m) h) e

  -- indices in range, and zeros after them
  filled-sound : (i n : ℕ) (xs : List ℤ) → is_none m ≡ false → i + length xs ≤ bands k m → Every (λ x. in_range k m x ≡ true) xs
      → sound_from k m i (xs ++ replicate n (pos 0)) ≡ true
  unfolding sound_from
  filled-sound i n [] o h p = rest-sound i n
  filled-sound i n (x ∷ xs) o h p =
      and_of (sound_index k m i x) _ (index-sound i x o (omega arith) p.0) (filled-sound (i + 1) n xs o (omega arith) p.1)

  -- a row that may be a record's in this mode
  abbrev SoundRow : Row → Type 0
  SoundRow r = sound_from k m 0 r.indices ≡ true

  no-row : SoundRow no_row
  unfolding no_row zeros
  no-row = rest-sound 0 34

  module _ (o : is_none m ≡ false) where
    indices-gives : (time : ℕ) (before : List ℤ) → Gives (λ xs. sound_from k m 0 xs ≡ true) (indices k m time before)
    unfolding indices index
    indices-gives time before =
        map_gives (padded 34 (pos 0))
        (listed-gives (λ x. in_range k m x ≡ true) (index k m time before)
        (λ xs. record { law = λ s at end next y e. index-ranged k m time s at end (reference time before xs) y next e }) (bands k m))
        λ xs p. filled-sound 0 (34 - length xs) xs o (omega (arith, p.0)) p.1

    row_gives : (h : Record) → Gives SoundRow (row k m h)
    unfolding row
    row_gives h =
        then_gives (expecting 31 (allowed h.mode m) (field 1)) λ time.
        bind_gives (indices-gives time h.indices) (λ xs p. give-gives p)

  rows-gives : (on : Bool) (h : Record) (n : ℕ) → (on ≡ true → is_none m ≡ false) → Gives (Every SoundRow) (rows k on m h n)
  unfolding rows rows_of no_rows
  rows-gives on h n o =
      pick_gives on (λ e. padded-gives SoundRow (λ rs. row k m (record_after_rows h m rs))
      (λ rs. row_gives (o e) (record_after_rows h m rs)) no_row 4 n no-row)
      (λ e. give-gives (every-replicate SoundRow 4 no_row no-row))

module _ (m : ℕ) where
  abbrev SoundPhases : Phases → Type 0
  SoundPhases p = SoundRow Ipd m p.ipd × SoundRow Opd m p.opd

  abbrev SoundBody : Body → Type 0
  SoundBody b = Every SoundPhases b.phases

  abbrev SoundPart : Part → Type 0
  SoundPart p = SoundBody p.body

  abbrev SoundExtension : Extension → Type 0
  SoundExtension x = SoundPart x.part

  no-phases : SoundPhases no_phases
  unfolding no_phases
  no-phases = (no-row Ipd m, no-row Opd m)

  no_body_sound : SoundBody no_body
  unfolding no_body
  no_body_sound = every-replicate SoundPhases 4 no_phases no-phases

  -- the flag at 1 asks for a mode
  flag-mode : (on : ℕ) → has_mode m on ≡ true → eqb on 1 ≡ true → is_none m ≡ false
  flag-mode on e q = not-true (is_none m) (subst (λ (v : ℕ). has_mode m v ≡ true) (eqb-true on 1 q) e)

  phases_in-gives : is_none m ≡ false → (ipd opd : Record) → Gives SoundPhases (phases_in m ipd opd)
  unfolding phases_in
  phases_in-gives o ipd opd = bind_gives (row_gives Ipd m o ipd) λ a p. bind_gives (row_gives Opd m o opd) (λ b q. give-gives (p, q))

  module _ (ipd opd : Record) (n : ℕ) where
    phases-gives : (on : ℕ) → (eqb on 1 ≡ true → is_none m ≡ false) → Gives (Every SoundPhases) (phases on m ipd opd n)
    unfolding phases phases_of
    phases-gives on o =
        pick_gives (eqb on 1)
        (λ e. padded-gives SoundPhases (phases_next m ipd opd) (λ ps. phases_in-gives (o e) _ _) no_phases 4 n no-phases)
        (λ e. give-gives (every-replicate SoundPhases 4 no_phases no-phases))

    v0-gives : Gives SoundBody (v0 m ipd opd n)
    unfolding v0 phase_flag
    v0-gives =
        bind_gives (then_gives (expecting 13 (λ v. eqb v 0) (field 2)) (λ id. expecting-gives 34 (has_mode m) (field 1)))
        λ on p. bind_gives (phases-gives on (flag-mode on p))
        λ ps q. then_gives (zero_bit 13) (λ z. give-gives q)

    part_gives : Gives SoundPart (part m ipd opd n)
    unfolding part
    part_gives = bind_gives v0-gives λ b p. then_gives (left_over 7 another) (λ fill. give-gives p)

    announced-gives : (size : ℕ) → Gives SoundPart (announced m ipd opd n size)
    unfolding announced no_part
    announced-gives size =
        pick_gives (eqb size 0) (λ e. give-gives no_body_sound) (λ e. inside-gives (8 * size) 33 (part m ipd opd n) part_gives)

    extension-gives : (on : Bool) → Gives SoundExtension (extension on m ipd opd n)
    unfolding extension extension_sent no_extension no_part
    extension-gives on =
        pick_gives on (λ e. then_gives (field 4) λ size. then_gives (esc_count size) λ esc.
        bind_gives (announced-gives (size + esc)) (λ p q. give-gives q))
        (λ e. give-gives no_body_sound)

-- a mode that is read is at most 5
mode-gives : (on : ℕ) → Gives (λ m. leb m 5 ≡ true) (mode on)
unfolding mode
mode-gives on = pick_gives (eqb on 1) (λ e. expecting-gives 13 (λ m. leb m 5) (field 3)) (λ e. give-gives refl)

abbrev Modes : Header → Type 0
Modes h = (leb h.iidmode 5 ≡ true) × (leb h.iccmode 5 ≡ true)

switch-gives : Gives (λ x. leb x.mode 5 ≡ true) switch
unfolding switch
switch-gives = then_gives (field 1) λ on. bind_gives (mode-gives on) λ m p. give-gives p

header-gives : Gives Modes header
unfolding header header_fields no_header
header-gives =
    then_gives (field 1) λ there. pick_gives (eqb there 1)
    (λ e. bind_gives switch-gives λ iid p. bind_gives switch-gives λ icc q. then_gives (field 1) (λ ext. give-gives (p, q)))
    (λ e. give-gives (refl, refl))

-- the set-up
mode-sound : (b : Bool) (new old : ℕ) → leb new 5 ≡ true → sound_mode old ≡ true → sound_mode (pick b new old) ≡ true
mode-sound true new old p q = or_left (leb new 5) (is_none new) p
mode-sound false new old p q = q

mode_sent : (m : ℕ) → leb m 5 ≡ true → is_sent m ≡ true
mode_sent m p = let l = leb-true m 5 p in rw (ne_eqb m 7 (λ e. omega arith))

flag-sound : (there on old : Bool) (new m : ℕ) → leb new 5 ≡ true → (not old || is_sent m) ≡ true
    → (not (pick there on old) || is_sent (pick on new m)) ≡ true
flag-sound true true old new m p q = mode_sent new p
flag-sound true false old new m p q = refl
flag-sound false true true new m p q = mode_sent new p
flag-sound false true false new m p q = refl
flag-sound false false old new m p q = q

-- the parts of a sound set-up
pub record Set (f : Setup) : Type 0 where
  pub iidmode : sound_mode f.iidmode ≡ true
  pub iccmode : sound_mode f.iccmode ≡ true
  pub iid : (not f.iid || is_sent f.iidmode) ≡ true
  pub icc : (not f.icc || is_sent f.iccmode) ≡ true

pub set-up : (f : Setup) → sound_setup f ≡ true → Set f
unfolding sound_setup
set-up f e =
    let a = and_both _ _ e in
    let b = and_both _ _ a.0 in
    let c = and_both _ _ b.0 in
    record { iidmode = c.0; iccmode = c.1; iid = b.1; icc = a.1 }

set-sound : (f : Setup) → Set f → sound_setup f ≡ true
unfolding sound_setup
set-sound f p = and_of _ _ (and_of _ _ (and_of _ _ p.iidmode p.iccmode) p.iid) p.icc

set_after : (f : Setup) (h : Header) → Set f → Modes h → Set (setup_after f h)
unfolding setup_after
set_after f h p m = record {
  iidmode = mode-sound (eqb h.iid 1) h.iidmode f.iidmode m.0 p.iidmode;
  iccmode = mode-sound (eqb h.icc 1) h.iccmode f.iccmode m.1 p.iccmode;
  iid = flag-sound (eqb h.there 1) (eqb h.iid 1) f.iid h.iidmode f.iidmode m.0 p.iid;
  icc = flag-sound (eqb h.there 1) (eqb h.icc 1) f.icc h.iccmode f.iccmode m.1 p.icc;
}

-- what is on has a mode
on_mode : (on : Bool) (m : ℕ) → (not on || is_sent m) ≡ true → on ≡ true → is_none m ≡ false
on_mode true m p e = not-true (is_none m) p
on_mode false m p e = absurd (true-false false e refl)

-- what is known of the contents
record Known (f : Setup) (c : Contents) : Type 0 where
  pub iid : Every (SoundRow Iid f.iidmode) c.iid
  pub icc : Every (SoundRow Icc f.iccmode) c.icc
  pub extension : SoundExtension f.iidmode c.extension

abbrev Good : Setup → Contents → Type 0
Good f c = Set (setup_after f c.header) × Known (setup_after f c.header) c

payload-gives : (st : State) → Set st.setup → Gives (Good st.setup) (payload st)
unfolding payload envelopes
payload-gives st p =
    bind_gives header-gives λ h m. then_gives frame λ fr.
    let f = setup_after st.setup h in
    let n = fr.envelopes in
    let u = set_after st.setup h p m in
    bind_gives (rows-gives Iid f.iidmode f.iid st.iid n (on_mode f.iid f.iidmode u.iid))
    λ iid a. bind_gives (rows-gives Icc f.iccmode f.icc st.icc n (on_mode f.icc f.iccmode u.icc))
    λ icc b. bind_gives (extension-gives f.iidmode st.ipd st.opd n f.ext)
    λ x c. give-gives (u, record { iid = a; icc = b; extension = c })

-- the records
record_sound : (k : Kind) (on : Bool) (m : ℕ) (h : Record) (n : ℕ) (xs : List ℤ) → sound_record k h ≡ true → sound_mode m ≡ true
    → sound_from k m 0 xs ≡ true
    → sound_record k (record_after on m h n xs) ≡ true
unfolding record_after sound_record none zeros
record_sound k false m h n xs p q r = rest-sound k 7 0 34
record_sound k true m h n xs p q r = go (eqb n 0)
  where
    go : (b : Bool) → sound_record k (pick b h (record_of m xs)) ≡ true
    go true = p
    go false = and_of (sound_mode m) _ q r

-- the parts of a sound state
pub record Parts (st : State) : Type 0 where
  pub setup : sound_setup st.setup ≡ true
  pub iid : sound_record Iid st.iid ≡ true
  pub icc : sound_record Icc st.icc ≡ true
  pub ipd : sound_record Ipd st.ipd ≡ true
  pub opd : sound_record Opd st.opd ≡ true

pub parts : (st : State) → sound st ≡ true → Parts st
unfolding sound
parts st e =
    let a = and_both _ _ e in
    let b = and_both _ _ a.0 in
    let c = and_both _ _ b.0 in
    let d = and_both _ _ c.0 in
    record { setup = d.0; iid = d.1; icc = c.1; ipd = b.1; opd = a.1 }

together : (st : State) → Parts st → sound st ≡ true
unfolding sound
together st p = and_of _ _ (and_of _ _ (and_of _ _ (and_of _ _ p.setup p.iid) p.icc) p.ipd) p.opd

carried_in-sound : (st : State) (c : Contents) (f : Setup) → Parts st → Set f → Known f c → Parts (carried_in st c f)
unfolding carried_in phase_records
carried_in-sound st c f p u k =
    let n = c.frame.envelopes in
    let b = c.extension.part.body in
    let last : (k : Kind) (m : ℕ) (rs : List Row) → Every (SoundRow k m) rs → SoundRow k m (get_or rs (n - 1) no_row) =
    λ k m rs e. every-at (SoundRow k m) rs (n - 1) no_row e (no-row k m) in
    let q = every-at (SoundPhases f.iidmode) b.phases (n - 1) no_phases k.extension (no-phases f.iidmode) in
    record {
      setup = set-sound f u;
      iid = record_sound Iid f.iid f.iidmode st.iid n _ p.iid u.iidmode (last Iid f.iidmode c.iid k.iid);
      icc = record_sound Icc f.icc f.iccmode st.icc n _ p.icc u.iccmode (last Icc f.iccmode c.icc k.icc);
      ipd = record_sound Ipd (eqb b.phase 1) f.iidmode st.ipd n _ p.ipd u.iidmode q.0;
      opd = record_sound Opd (eqb b.phase 1) f.iidmode st.opd n _ p.opd u.iidmode q.1;
    }

pub carried-sound : (st : State) (s : List ℕ) (n : ℕ) (c : Contents) → sound st ≡ true → whole (payload st) s ≡ got c n
    → sound (carried st c) ≡ true
unfolding carried
carried-sound st s n c e q =
    let p = parts st e in
    let g = (payload-gives st (set-up st.setup p.setup)).law s 0 (8 * length s) n c (whole-got (payload st) s n c q).0 in
    together (carried_in st c (setup_after st.setup c.header))
    (carried_in-sound st c (setup_after st.setup c.header) p g.0 g.1)
