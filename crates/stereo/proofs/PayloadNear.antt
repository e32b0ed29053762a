-- A payload takes 8,192 bits at most, and no more are looked at.
-- Assumes nothing.
use Prim.Native.Nat.{ℕ, ◌+◌, ◌*◌, ◌<◌, ◌≤◌}
use mathlib.Core.List.{List}
use mathlib.Core.Bool.{Bool, true, false}
use native.Mathlib.Omega.{arith}
use lib.Dec.{eqb}
use lib.IntN.{ℤ}
use Rattle.bits.specs.Reader.{pick}
use Rattle.bits.specs.Field.{field}
use Rattle.bits.proofs.Gives.{Gives, give-gives, bind_gives, then_gives, field-gives}
use Rattle.stereo_indices.specs.Kind.{bands}
use Rattle.stereo_indices.specs.Difference.{difference}
use Rattle.stereo_indices.specs.Indices.{index_from, index, indices}
use Rattle.stereo_indices.specs.Rows.{row, rows_of, rows}
use Rattle.stereo_indices.specs.declared.Kind.{Kind}
use Rattle.stereo_indices.specs.declared.Kind.TheVariants.{Iid, Icc}
use Rattle.stereo_indices.specs.declared.Record.{Record}
use Rattle.stereo_indices.proofs.KindLaws.{bands-le, of_table}
use Rattle.tables.specs.Tables.{word_of}
use Rattle.stereo.specs.Header.{mode, switch, header_fields, header, setup_after}
use Rattle.stereo.specs.Frame.{envelope_count, borders_of, borders, frame}
use Rattle.stereo.specs.Extension.{part, announced, esc_count, extension_sent, extension}
use Rattle.stereo.specs.Payload.{envelopes, payload}
use Rattle.stereo.specs.declared.Setup.{Setup}
use Rattle.stereo.specs.declared.State.{State}
use Rattle.stereo.specs.declared.Header.{Header}
use Rattle.stereo.specs.declared.Frame.{Frame}
use Rattle.bits.proofs.NearLaws.{Near, so_costs, on_costs, give-costs, field-costs, expecting-costs, pick-costs, known-costs, bind_costs}
use Rattle.bits.proofs.NearLaws.{listed-near, inside-near}
use Rattle.tables.proofs.WordNear.{word-near}
use Rattle.stereo.proofs.ExtensionLaws.{esc-below}
use Rattle.stereo.proofs.PayloadLaws.{part-filling}

index-near : (k : Kind) (m t : ℕ) (before xs : List ℤ) → Near 20 (index k m t before xs)
unfolding index index_from difference
index-near k m t before xs =
    bind_costs (expecting-costs 32 _ (of_table (λ t. Near 20 (word_of t)) word-near k m t)) λ e. give-costs (omega arith)

row_near : (k : Kind) (m : ℕ) (h : Record) → Near 681 (row k m h)
unfolding row indices
row_near k m h =
    bind_costs (expecting-costs 31 _ (field-costs 1 (omega arith))) λ t.
    bind_costs (bind_costs (on_costs (omega arith) (listed-near 20 (index-near k m t h.indices) (bands k m) 34 (bands-le k m))) λ xs.
    give-costs {f = λ xs. 681} (omega arith)) λ xs. give-costs (omega arith)

rows-near : (k : Kind) (on : Bool) (m : ℕ) (h : Record) (n : ℕ) → n ≤ 4 → Near 2724 (rows k on m h n)
unfolding rows rows_of
rows-near k on m h n l =
    pick-costs on (λ e. bind_costs (listed-near 681 (λ rs. row_near k m _) n 4 l) λ rs. give-costs (omega arith))
    (λ e. give-costs (omega arith))

mode-near : (on : ℕ) → Near 3 (mode on)
unfolding mode
mode-near on = pick-costs (eqb on 1) (λ e. expecting-costs 13 _ (field-costs 3 (omega arith))) (λ e. give-costs (omega arith))

switch-near : Near 4 switch
unfolding switch
switch-near =
    bind_costs (field-costs 1 (omega arith)) λ on. bind_costs (on_costs (omega arith) (mode-near on)) λ m. give-costs (omega arith)

header-near : Near 10 header
unfolding header header_fields
header-near =
    bind_costs (field-costs 1 (omega arith)) λ there.
    pick-costs (eqb there 1)
    (λ e. bind_costs (on_costs (omega arith) switch-near) λ iid.
    bind_costs (on_costs (omega arith) switch-near) λ icc.
    bind_costs (field-costs 1 (omega arith)) λ ext. give-costs (omega arith))
    (λ e. give-costs (omega arith))

pub count-le : (class i : ℕ) → i < 4 → envelope_count class i ≤ 4
unfolding envelope_count
count-le class i h = go (eqb class 1) (eqb i 3)
  where
    go : (a b : Bool) → pick a (i + 1) (pick b 4 i) ≤ 4
    go true b = omega arith
    go false true = omega arith
    go false false = omega arith

borders-near : (class n : ℕ) → n ≤ 4 → Near 20 (borders class n)
unfolding borders borders_of
borders-near class n l =
    pick-costs (eqb class 1) (λ e. bind_costs (listed-near 5 (λ bs. field-costs 5 (omega arith)) n 4 l) λ bs. give-costs (omega arith))
    (λ e. give-costs (omega arith))

frame-near : Near 23 frame
unfolding frame
frame-near =
    bind_costs (field-costs 1 (omega arith)) λ class.
    known-costs (λ i. i < 4) (field-gives 2) (field-costs 2 (omega arith)) λ i l.
    bind_costs (on_costs (omega arith) (borders-near class (envelope_count class i) (count-le class i l))) λ bs. give-costs (omega arith)

-- a frame has at most 4 envelopes
frame-few : Gives (λ fr. fr.envelopes ≤ 4) frame
unfolding frame
frame-few =
    then_gives (field 1) λ class.
    bind_gives (field-gives 2) λ i l.
    then_gives (borders class (envelope_count class i)) λ bs. give-gives (count-le class i l)

esc-near : (z : ℕ) → Near 8 (esc_count z)
unfolding esc_count
esc-near z = pick-costs (eqb z 15) (λ e. field-costs 8 (omega arith)) (λ e. give-costs (omega arith))

announced-near : (m : ℕ) (ipd opd : Record) (n size : ℕ) → size ≤ 270 → Near 2160 (announced m ipd opd n size)
unfolding announced
announced-near m ipd opd n size l =
    pick-costs (eqb size 0) (λ e. give-costs (omega arith))
    (λ e. so_costs (omega arith) (λ p. omega arith) (inside-near (8 * size) 33 (part m ipd opd n) (part-filling m ipd opd n)))

extension-near : (on : Bool) (m : ℕ) (ipd opd : Record) (n : ℕ) → Near 2172 (extension on m ipd opd n)
unfolding extension extension_sent
extension-near on m ipd opd n =
    pick-costs on (λ e. known-costs (λ z. z < 16) (field-gives 4) (field-costs 4 (omega arith)) λ z l.
    known-costs (λ c. c < 256) (record { law = λ s at end next c e. esc-below z s at end c next e })
    (on_costs (omega arith) (esc-near z)) λ c o.
    bind_costs (on_costs (omega arith) (announced-near m ipd opd n (z + c) (omega arith))) λ p. give-costs (omega arith))
    (λ e. give-costs (omega arith))

envelopes-near : (st : State) (h : Header) (f : Setup) (fr : Frame) → fr.envelopes ≤ 4 → Near 7620 (envelopes st h f fr)
unfolding envelopes
envelopes-near st h f fr l =
    bind_costs (on_costs (omega arith) (rows-near Iid f.iid f.iidmode st.iid fr.envelopes l)) λ iid.
    bind_costs (on_costs (omega arith) (rows-near Icc f.icc f.iccmode st.icc fr.envelopes l)) λ icc.
    bind_costs (on_costs (omega arith) (extension-near f.ext f.iidmode st.ipd st.opd fr.envelopes)) λ x.
    give-costs (omega arith)

pub payload-near : (st : State) → Near 8192 (payload st)
unfolding payload
payload-near st =
    bind_costs (on_costs (omega arith) header-near) λ h.
    known-costs (λ fr. fr.envelopes ≤ 4) frame-few (on_costs (omega arith) frame-near) λ fr l.
    so_costs (omega arith) (λ c. omega arith) (envelopes-near st h (setup_after st.setup h) fr l)
