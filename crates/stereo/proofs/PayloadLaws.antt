-- The reading laws of a payload: no bit outside counts, and no cut goes unseen.
-- Assumes nothing.
use Prim.Native.Nat.{ℕ, ◌*◌, ◌<◌}
use mathlib.Core.Path.{◌≡◌, refl}
use mathlib.Core.Bool.{Bool}
use mathlib.Core.List.{List}
use lib.Dec.{eqb}
use lib.ListN.{take}
use Rattle.bits.specs.Reader.{got, refused, pick}
use Rattle.bits.specs.Payload.{whole}
use Rattle.bits.specs.Inside.{Fill, left_over}
use Rattle.bits.specs.Field.{field}
use Rattle.bits.specs.Places.{here, refuse_at}
use native.Mathlib.Omega.{arith}
use Rattle.bits.proofs.Lawful.{Lawful, never, same_place, split, after-local, after-placed, bind_lawful, give-lawful, pick-lawful}
use Rattle.bits.proofs.Lawful.{expecting-lawful}
use Rattle.bits.proofs.FieldLaws.{field-lawful, zero_bit-lawful}
use Rattle.bits.proofs.LoopLaws.{listed-lawful}
use Rattle.bits.proofs.InsideLaws.{Filling, then_filling, filling_then, left_over-filling, inside-lawful}
use Rattle.bits.proofs.PayloadLaws.{whole-cut}
use Rattle.stereo_indices.proofs.ReadingLaws.{row_lawful, rows-lawful}
use Rattle.stereo_indices.specs.declared.Record.{Record}
use Rattle.stereo.specs.Header.{mode, switch, header_fields, header}
use Rattle.stereo.specs.Frame.{borders_of, borders, frame}
use Rattle.stereo.specs.Extension.{phases_in, phases_of, phases, phase_flag, v0, another, part, announced, esc_count, extension_sent}
use Rattle.stereo.specs.Extension.{extension}
use Rattle.stereo.specs.Payload.{envelopes, payload}
use Rattle.stereo.specs.declared.Setup.{Setup}
use Rattle.stereo.specs.declared.State.{State}
use Rattle.stereo.specs.declared.Header.{Header}
use Rattle.stereo.specs.declared.Frame.{Frame}
use Rattle.stereo.specs.declared.Contents.{Contents}

ruleset lawful = (bind_lawful, field-lawful, zero_bit-lawful, give-lawful, expecting-lawful, pick-lawful, listed-lawful)

mode-lawful : (on : ℕ) → Lawful (mode on)
unfolding mode
mode-lawful on = search lawful depth 8

switch-lawful : Lawful switch
unfolding switch
switch-lawful = search (lawful, mode-lawful) depth 8

fields_lawful : Lawful header_fields
unfolding header_fields
fields_lawful = search (lawful, switch-lawful) depth 16

pub header-lawful : Lawful header
unfolding header
header-lawful = search (lawful, fields_lawful) depth 8

borders-lawful : (class n : ℕ) → Lawful (borders class n)
unfolding borders borders_of
borders-lawful class n = search lawful depth 8

pub frame-lawful : Lawful frame
unfolding frame
frame-lawful = search (lawful, borders-lawful) depth 12

one-lawful : (m : ℕ) (ipd opd : Record) → Lawful (phases_in m ipd opd)
unfolding phases_in
one-lawful m ipd opd = search (lawful, row_lawful) depth 8

phases-lawful : (on m : ℕ) (ipd opd : Record) (n : ℕ) → Lawful (phases on m ipd opd n)
unfolding phases phases_of
phases-lawful on m ipd opd n = search (lawful, one-lawful) depth 8

flag-lawful : (m : ℕ) → Lawful (phase_flag m)
unfolding phase_flag
flag-lawful m = search lawful depth 8

v0-lawful : (m : ℕ) (ipd opd : Record) (n : ℕ) → Lawful (v0 m ipd opd n)
unfolding v0
v0-lawful m ipd opd n = search (lawful, flag-lawful, phases-lawful) depth 12

another-filling : Filling another
unfolding another here refuse_at
another-filling = record {
  full = λ s at end next x h e. never (split (field 2 s at end) _ s end next x e).3;
  placed = λ s at end n p h.
      after-placed (field 2) _ s at end n p (λ m q. (field-lawful 2).placed s at end m q h)
      (λ id m f e. let q = same_place {A = Fill} e in omega arith);
  local = λ s t at end h q.
      after-local (field 2) (λ id. refuse_at (pick (eqb id 0) 33 13) at) s t at end ((field-lawful 2).accepts.local s t at end h q)
      (λ id m e. refl);
}

pub part-filling : (m : ℕ) (ipd opd : Record) (n : ℕ) → Filling (part m ipd opd n)
unfolding part
part-filling m ipd opd n =
    then_filling (v0 m ipd opd n) _ (v0-lawful m ipd opd n) λ b.
    filling_then (left_over 7 another) _ (left_over-filling 7 another another-filling) λ x. give-lawful _

announced-lawful : (m : ℕ) (ipd opd : Record) (n size : ℕ) → Lawful (announced m ipd opd n size)
unfolding announced
announced-lawful m ipd opd n size =
    pick-lawful (eqb size 0) (give-lawful _) (inside-lawful (8 * size) 33 (part m ipd opd n) (part-filling m ipd opd n))

esc-lawful : (size : ℕ) → Lawful (esc_count size)
unfolding esc_count
esc-lawful size = search lawful depth 8

extension-lawful : (on : Bool) (m : ℕ) (ipd opd : Record) (n : ℕ) → Lawful (extension on m ipd opd n)
unfolding extension extension_sent
extension-lawful on m ipd opd n = search (lawful, esc-lawful, announced-lawful) depth 12

envelopes-lawful : (st : State) (h : Header) (f : Setup) (fr : Frame) → Lawful (envelopes st h f fr)
unfolding envelopes
envelopes-lawful st h f fr = search (lawful, rows-lawful, extension-lawful) depth 12

pub payload-lawful : (st : State) → Lawful (payload st)
unfolding payload
payload-lawful st = search (lawful, header-lawful, frame-lawful, envelopes-lawful) depth 8

-- a payload that is cut so that fewer bits are there than it used is refused with 10
pub payload_cut : (st : State) (s : List ℕ) (next : ℕ) (c : Contents) (k : ℕ) → whole (payload st) s ≡ got c next → 8 * k < next
    → (p : ℕ) × (whole (payload st) (take k s) ≡ refused 10 p)
payload_cut st = whole-cut (payload st) (payload-lawful st)
