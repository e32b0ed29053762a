-- The maps of the layout undo each other: what is put into bytes and fits them is what the bytes stand for.
-- Assumes nothing.
use Prim.Native.Nat.{ℕ, zero, suc, ◌+◌, ◌*◌, ◌<◌}
use mathlib.Core.Path.{◌≡◌, refl, sym, ap, ◌∙◌}
use mathlib.Core.List.{List, [], ◌∷◌, ◌++◌, map, append_assoc}
use mathlib.Core.Bool.{Bool, true, false}
use native.Mathlib.Omega.{arith}
use native.Mathlib.Nat.{mod-eq_of_lt}
use lib.Dec.{eqb}
use lib.IntN.{ℤ, pos}
use lib.ListN.{length, take, drop, get_or, length-map, length-append}
use lib.Seq.{drop-append-add, take-append_seam, get_or-append_seam}
use mir.Syntax.{w8}
use mir.Val.{of_z, to_z, SFits}
use mir.ValLaws.{to_z-of_z}
use Rattle.bits.specs.Bytes.{byte_of, flag_byte, word_of}
use Rattle.bits.specs.Bits.{bits_from}
use Rattle.bits.proofs.FourBytes.{word_back}
use Rattle.bits.proofs.Spelt.{Every, every-at, every-replicate}
use Rattle.stereo_indices.specs.Record.{zeros}
use Rattle.stereo_indices.specs.Rows.{no_row}
use Rattle.stereo_indices.specs.declared.Record.{Record}
use Rattle.stereo_indices.specs.declared.Row.{Row}
use Rattle.stereo.specs.Extension.{no_phases}
use Rattle.stereo.specs.declared.Header.{Header}
use Rattle.stereo.specs.declared.Frame.{Frame}
use Rattle.stereo.specs.declared.Phases.{Phases}
use Rattle.stereo.specs.declared.Extension.{Extension}
use Rattle.stereo.specs.declared.Contents.{Contents}
use Rattle.stereo.specs.declared.State.{State}
use Rattle.stereo.proofs.TurnLaws.{of_four}
use Rattle.c_layout.specs.Indices.{index_bytes, indices_at, numbered}
use Rattle.c_layout.specs.StateBytes.{state_head, record_bytes, state_bytes, record_at, state_at}
use Rattle.c_layout.specs.ContentsBytes.{row_bytes, answer_head, envelope_bytes, envelopes_bytes, answer_bytes}
use Rattle.c_layout.specs.ContentsBytes.{row_at, rows_at, phases_at, all_phases_at, header_at, frame_at, extension_at, contents_at}

-- 34 indices that fit a byte each
pub record Fitting (xs : List ℤ) : Type 0 where
  pub count : length xs ≡ 34
  pub each : Every (SFits w8) xs

pub zeros-fit : Fitting zeros
unfolding zeros
zeros-fit = record { count = refl; each = every-replicate (SFits w8) 34 (pos 0) (record { sfits = omega arith }) }

-- a row that fits 35 bytes
pub record Fits (r : Row) : Type 0 where
  pub time : r.time < 256
  pub indices : Fitting r.indices

indices-back : (xs : List ℤ) → Every (SFits w8) xs → map (to_z w8) (index_bytes xs) ≡ xs
indices-back [] f = refl
indices-back (x ∷ xs) f = rw (to_z-of_z w8 x f.0, indices-back xs f.1)

row-long : (r : Row) → Fits r → length (row_bytes r) ≡ 35
unfolding row_bytes numbered
row-long r f = ap suc (length-map r.indices (of_z w8) ∙ f.indices.count)

-- a row in the midst of bytes
row_back : (pre post : List ℕ) (r : Row) (at : ℕ) → at ≡ length pre → Fits r → row_at (pre ++ (row_bytes r ++ post)) at ≡ r
unfolding row_at row_bytes numbered indices_at
row_back pre post r at e f =
    let ys = index_bytes r.indices in
    let s = pre ++ (byte_of r.time ∷ (ys ++ post)) in
    let l : length ys ≡ 34 = length-map r.indices (of_z w8) ∙ f.indices.count in
    let m : get_or s at 0 ≡ r.time =
    ap (λ (k : ℕ). get_or s k 0) e ∙ get_or-append_seam pre (byte_of r.time) (ys ++ post) 0 ∙ mod-eq_of_lt f.time in
    let d : drop (at + 1) s ≡ ys ++ post = ap (λ (k : ℕ). drop (k + 1) s) e ∙ drop-append-add pre (byte_of r.time ∷ (ys ++ post)) 1 in
    let t : take 34 (ys ++ post) ≡ ys = ap (λ (k : ℕ). take k (ys ++ post)) (sym l) ∙ take-append_seam ys post in
    rw (m, d, t, indices-back r.indices f.indices.each)

pub no_row-fits : Fits no_row
unfolding no_row
no_row-fits = record { time = omega arith; indices = zeros-fit }

-- rows one after another
abbrev rows_bytes : List Row → List ℕ
rows_bytes [] = []
rows_bytes (r ∷ rs) = row_bytes r ++ rows_bytes rs

-- any of them
rows_back : (pre post : List ℕ) (rs : List Row) (i at : ℕ) → i < length rs → Every Fits rs → at ≡ length pre + 35 * i
    → row_at (pre ++ (rows_bytes rs ++ post)) at ≡ get_or rs i no_row
rows_back pre post [] i at h f e = absurd (omega arith)
rows_back pre post (r ∷ rs) zero at h f e =
    ap (λ (s : List ℕ). row_at (pre ++ s) at) (append_assoc (row_bytes r) (rows_bytes rs) post)
    ∙ row_back pre (rows_bytes rs ++ post) r at (omega arith) f.0
rows_back pre post (r ∷ rs) (suc i) at h f e =
    let l : length (pre ++ row_bytes r) ≡ length pre + 35 = rw (length-append pre (row_bytes r), row-long r f.0) in
    ap (λ (s : List ℕ). row_at s at) (ap (λ (s : List ℕ). pre ++ s) (append_assoc (row_bytes r) (rows_bytes rs) post)
    ∙ sym (append_assoc pre (row_bytes r) (rows_bytes rs ++ post)))
    ∙ rows_back (pre ++ row_bytes r) post rs i at (omega arith) f.1 (omega arith)

flag-back : (b : Bool) → eqb (flag_byte b) 1 ≡ b
flag-back true = refl
flag-back false = refl

-- a record, as the row of its numbers
abbrev pub as_row : Record → Row
as_row r = record { time = r.mode; indices = r.indices }

abbrev pub as_record : Row → Record
as_record r = record { mode = r.time; indices = r.indices }

-- a state that fits 146 bytes
pub record StateFits (st : State) : Type 0 where
  pub iidmode : st.setup.iidmode < 256
  pub iccmode : st.setup.iccmode < 256
  pub iid : Fits (as_row st.iid)
  pub icc : Fits (as_row st.icc)
  pub ipd : Fits (as_row st.ipd)
  pub opd : Fits (as_row st.opd)

module _ (st : State) (rest : List ℕ) (f : StateFits st) where
  abbrev records : List Row
  records = as_row st.iid ∷ as_row st.icc ∷ as_row st.ipd ∷ as_row st.opd ∷ []

  in_rows : state_bytes st ++ rest ≡ state_head st ++ (rows_bytes records ++ rest)
  unfolding state_bytes record_bytes row_bytes
  in_rows = simp append_assoc

  record-back : (i at : ℕ) → i < 4 → at ≡ 6 + 35 * i → record_at (state_bytes st ++ rest) at ≡ as_record (get_or records i no_row)
  unfolding state_head record_at row_at
  record-back i at h e =
      ap as_record (ap (λ (s : List ℕ). row_at s at) in_rows
      ∙ rows_back (state_head st) rest records i at h (f.iid, (f.icc, (f.ipd, (f.opd, tt)))) e)

  -- the head's flags and modes
  setup-back : (state_at (state_bytes st ++ rest)).setup ≡ st.setup
  unfolding state_at state_bytes state_head
  setup-back =
      rw (
        flag-back st.setup.iid,
        flag-back st.setup.icc,
        flag-back st.setup.ext,
        mod-eq_of_lt f.iidmode,
        mod-eq_of_lt f.iccmode,
      )

  mark-back : (state_at (state_bytes st ++ rest)).instep ≡ st.instep
  unfolding state_at state_bytes state_head
  mark-back = flag-back st.instep

  pub state-back : state_at (state_bytes st ++ rest) ≡ st
  unfolding state_at
  state-back = λ j. record {
    setup = setup-back j;
    iid = record-back 0 6 (omega arith) refl j;
    icc = record-back 1 41 (omega arith) refl j;
    ipd = record-back 2 76 (omega arith) refl j;
    opd = record-back 3 111 (omega arith) refl j;
    instep = mark-back j;
  }

-- contents that fit an answer: each number a byte, of each kind four rows
pub record HeaderFits (h : Header) : Type 0 where
  pub there : h.there < 256
  pub iid : h.iid < 256
  pub iidmode : h.iidmode < 256
  pub icc : h.icc < 256
  pub iccmode : h.iccmode < 256
  pub ext : h.ext < 256

pub record FrameFits (f : Frame) : Type 0 where
  pub class : f.class < 256
  pub envelopes : f.envelopes < 256
  pub count : length f.borders ≡ 4
  pub borders : Every (λ b. b < 256) f.borders

abbrev pub PhasesFit : Phases → Type 0
PhasesFit p = Fits p.ipd × Fits p.opd

pub record ExtensionFits (x : Extension) : Type 0 where
  pub there : x.there < 256
  pub size : x.size < 256
  pub esc : x.esc < 256
  pub phase : x.part.body.phase < 256
  pub count : x.part.count < 256
  pub value : x.part.value < 256
  pub four : length x.part.body.phases ≡ 4
  pub phases : Every PhasesFit x.part.body.phases

pub record ContentsFit (c : Contents) : Type 0 where
  pub header : HeaderFits c.header
  pub frame : FrameFits c.frame
  pub iids : length c.iid ≡ 4
  pub iid : Every Fits c.iid
  pub iccs : length c.icc ≡ 4
  pub icc : Every Fits c.icc
  pub extension : ExtensionFits c.extension

header-back : (bits : ℕ) (c : Contents) (rest : List ℕ) → HeaderFits c.header
    → header_at (answer_head bits c ++ rest) ≡ c.header
unfolding header_at answer_head word_of
header-back bits c rest f =
    rw (
      mod-eq_of_lt f.there,
      mod-eq_of_lt f.iid,
      mod-eq_of_lt f.iidmode,
      mod-eq_of_lt f.icc,
      mod-eq_of_lt f.iccmode,
      mod-eq_of_lt f.ext,
    )

frame_back : (bits : ℕ) (c : Contents) (rest : List ℕ) → FrameFits c.frame → frame_at (answer_head bits c ++ rest) ≡ c.frame
unfolding frame_at answer_head word_of
frame_back bits c rest f =
    let border : (i : ℕ) → byte_of (get_or c.frame.borders i 0) ≡ get_or c.frame.borders i 0 =
    λ i. mod-eq_of_lt (every-at (λ b. b < 256) c.frame.borders i 0 f.borders (omega arith)) in
    rw (
      mod-eq_of_lt f.class,
      mod-eq_of_lt f.envelopes,
      border 0,
      border 1,
      border 2,
      border 3,
      of_four 0 c.frame.borders f.count,
    )

module _ (bits : ℕ) (c : Contents) (rest : List ℕ) (f : ContentsFit c) where
  abbrev phases : List Phases
  phases = c.extension.part.body.phases

  abbrev envelope_rows : ℕ → List Row
  envelope_rows e = get_or c.iid e no_row ∷ get_or c.icc e no_row ∷ (get_or phases e no_phases).ipd ∷ (get_or phases e no_phases).opd ∷ []

  abbrev all_rows : List Row
  all_rows = envelope_rows 0 ++ (envelope_rows 1 ++ (envelope_rows 2 ++ envelope_rows 3))

  in-envelopes : answer_bytes bits c ++ rest ≡ answer_head bits c ++ (rows_bytes all_rows ++ rest)
  unfolding answer_bytes envelopes_bytes envelope_bytes
  in-envelopes = simp append_assoc

  envelope-fits : (e : ℕ) → Fits (get_or c.iid e no_row) × Fits (get_or c.icc e no_row) × PhasesFit (get_or phases e no_phases)
  unfolding no_phases
  envelope-fits e = (
    every-at Fits c.iid e no_row f.iid no_row-fits,
    every-at Fits c.icc e no_row f.icc no_row-fits,
    every-at PhasesFit phases e no_phases f.extension.phases (no_row-fits, no_row-fits),
  )

  -- the rows of an envelope, and all that follow
  with-envelope : (e : ℕ) (rs : List Row) → Every Fits rs → Every Fits (envelope_rows e ++ rs)
  with-envelope e rs g = let w = envelope-fits e in (w.0, (w.1, (w.2.0, (w.2.1, g))))

  all_fit : Every Fits all_rows
  all_fit =
      with-envelope 0 (envelope_rows 1 ++ (envelope_rows 2 ++ envelope_rows 3))
      (with-envelope 1 (envelope_rows 2 ++ envelope_rows 3) (with-envelope 2 (envelope_rows 3) (with-envelope 3 [] tt)))

  row-there : (i at : ℕ) → i < 16 → at ≡ 22 + 35 * i → row_at (answer_bytes bits c ++ rest) at ≡ get_or all_rows i no_row
  unfolding answer_head word_of
  row-there i at h e =
      ap (λ (s : List ℕ). row_at s at) in-envelopes
      ∙ rows_back (answer_head bits c) rest all_rows i at h all_fit e

  iid-back : rows_at (answer_bytes bits c ++ rest) 22 ≡ c.iid
  unfolding rows_at
  iid-back =
      rw (
        row-there 0 22 (omega arith) refl,
        row-there 4 162 (omega arith) refl,
        row-there 8 302 (omega arith) refl,
        row-there 12 442 (omega arith) refl,
      )
      (of_four no_row c.iid f.iids)

  icc-back : rows_at (answer_bytes bits c ++ rest) 57 ≡ c.icc
  unfolding rows_at
  icc-back =
      rw (
        row-there 1 57 (omega arith) refl,
        row-there 5 197 (omega arith) refl,
        row-there 9 337 (omega arith) refl,
        row-there 13 477 (omega arith) refl,
      )
      (of_four no_row c.icc f.iccs)

  phases-there : (e at : ℕ) → row_at (answer_bytes bits c ++ rest) at ≡ (get_or phases e no_phases).ipd
      → row_at (answer_bytes bits c ++ rest) (at + 35) ≡ (get_or phases e no_phases).opd
      → phases_at (answer_bytes bits c ++ rest) at ≡ get_or phases e no_phases
  unfolding phases_at
  phases-there e at p q = λ j. record { ipd = p j; opd = q j }

  phases-back : all_phases_at (answer_bytes bits c ++ rest) 92 ≡ phases
  unfolding all_phases_at
  phases-back =
      rw (
        phases-there 0 92 (row-there 2 92 (omega arith) refl) (row-there 3 127 (omega arith) refl),
        phases-there 1 232 (row-there 6 232 (omega arith) refl) (row-there 7 267 (omega arith) refl),
        phases-there 2 372 (row-there 10 372 (omega arith) refl) (row-there 11 407 (omega arith) refl),
        phases-there 3 512 (row-there 14 512 (omega arith) refl) (row-there 15 547 (omega arith) refl),
      )
      (of_four no_phases phases f.extension.four)

  extension-back : extension_at (answer_bytes bits c ++ rest) ≡ c.extension
  unfolding extension_at answer_bytes answer_head word_of
  extension-back =
      let x = f.extension in
      rw (
        phases-back,
        mod-eq_of_lt x.there,
        mod-eq_of_lt x.size,
        mod-eq_of_lt x.esc,
        mod-eq_of_lt x.phase,
        mod-eq_of_lt x.count,
        mod-eq_of_lt x.value,
      )

  pub contents-back : contents_at (answer_bytes bits c ++ rest) ≡ c
  unfolding contents_at
  contents-back =
      let h = ap header_at in-envelopes ∙ header-back bits c (rows_bytes all_rows ++ rest) f.header in
      let r = ap frame_at in-envelopes ∙ frame_back bits c (rows_bytes all_rows ++ rest) f.frame in
      λ j. record { header = h j; frame = r j; iid = iid-back j; icc = icc-back j; extension = extension-back j }

-- the word of the bits, as the number of its 32 bits
pub bits_back : (bits : ℕ) (c : Contents) (rest : List ℕ) → bits < 4294967296 → bits_from (answer_bytes bits c ++ rest) 0 32 ≡ bits
unfolding answer_bytes answer_head word_of
bits_back bits c rest h = word_back [] _ bits h
