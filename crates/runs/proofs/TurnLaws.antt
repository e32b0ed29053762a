-- One turn: what it was answered from, that it keeps soundness, and when it leaves the state out of step.
-- Assumes nothing.
use Prim.Native.Nat.{ℕ}
use mathlib.Core.Path.{◌≡◌, refl, sym, ◌∙◌, ap}
use mathlib.Core.List.{List, [], ◌∷◌}
use mathlib.Core.Bool.{Bool, true, false, ◌||◌}
use Rattle.bits.specs.Reader.{Answer, got, refused, pick}
use Rattle.bits.specs.Payload.{Range, is_there, bytes_in}
use Rattle.bits.proofs.Bools.{true-false}
use Rattle.runs.specs.Machine.{Event, payload, missing, Machine, Outcome, answered, reported, Turn, origin, untouched, losing}
use Rattle.runs.specs.Machine.{accepted, concluded, turn, after}
use Rattle.runs.specs.Damage.{Steady, Restarting, is_answer, is_lost}

-- an outcome that is no answer
no_answer : {C X : Type 0} {c : C} {n : ℕ} {o : Outcome C} → o ≡ answered c n → is_answer o ≡ false → X
no_answer {o = o} e q = let w : true ≡ false = sym (ap is_answer e) ∙ q in absurd (true-false true refl w)

module _ {S C : Type 0} (M : Machine S C) where
  -- a payload of a sound state whose range lies in its buffer
  pub read-turn : (st : S) (p : Range) → is_there p ≡ true → M.sound st ≡ true
      → turn M st (payload p) ≡ concluded M st (M.read (origin M st) (bytes_in p))
  read-turn st p r s = rw (r, s)

  -- an answered payload lies in its buffer, and its state is sound
  pub answered-turn : (st : S) (p : Range) (c : C) (n : ℕ) → (turn M st (payload p)).outcome ≡ answered c n
      → (is_there p ≡ true) × (M.sound st ≡ true) × (M.read (origin M st) (bytes_in p) ≡ got c n)
  answered-turn st p c n e = in-range (is_there p) refl e
    where
      from : (a : Answer C) → (concluded M st a).outcome ≡ answered c n → a ≡ got c n
      from (refused m place) e = no_answer e refl
      from (got d m) e = kind (M.in_step st || M.restart d) e
        where
          kind : (t : Bool) → (pick t (accepted M st d m) (losing M st 35 m)).outcome ≡ answered c n → got d m ≡ got c n
          kind true e = let u : d ≡ c = cc in let v : m ≡ n = cc in cc
          kind false e = no_answer e refl

      sound : (t : Bool) → M.sound st ≡ t
          → (pick t (concluded M st (M.read (origin M st) (bytes_in p))) (untouched M st 4)).outcome ≡ answered c n
          → (M.sound st ≡ true) × (M.read (origin M st) (bytes_in p) ≡ got c n)
      sound true q e = (q, from (M.read (origin M st) (bytes_in p)) e)
      sound false q e = no_answer e refl

      in-range : (t : Bool) → is_there p ≡ t
          → (pick t (pick (M.sound st) (concluded M st (M.read (origin M st) (bytes_in p))) (untouched M st 4))
          (untouched M st 1)).outcome ≡ answered c n
          → (is_there p ≡ true) × (M.sound st ≡ true) × (M.read (origin M st) (bytes_in p) ≡ got c n)
      in-range true q e = let w = sound (M.sound st) refl e in (q, w.0, w.1)
      in-range false q e = no_answer e refl

module _ {S C : Type 0} (M : Machine S C) (law : Steady M) where
  pub origin-sound : (st : S) → M.sound st ≡ true → M.sound (origin M st) ≡ true
  origin-sound st s = go (M.in_step st) refl
    where
      go : (t : Bool) → M.in_step st ≡ t → M.sound (origin M st) ≡ true
      go true q = rw q s
      go false q = rw q law.fresh-sound

  concluded-sound : (st : S) (s : List ℕ) → M.sound st ≡ true → (a : Answer C) → M.read (origin M st) s ≡ a
      → M.sound (concluded M st a).state ≡ true
  concluded-sound st s h (refused n place) q = law.lost-sound st h
  concluded-sound st s h (got c n) q = kind (M.in_step st || M.restart c)
    where
      kind : (t : Bool) → M.sound (pick t (accepted M st c n) (losing M st 35 n)).state ≡ true
      kind true = law.carried-sound (origin M st) s c n (origin-sound st h) q
      kind false = law.lost-sound st h

  -- soundness is kept by every event
  pub turn-sound : (st : S) (e : Event) → M.sound st ≡ true → M.sound (turn M st e).state ≡ true
  turn-sound st missing h = rw h (law.lost-sound st h)
  turn-sound st (payload p) h = go (is_there p)
    where
      go : (t : Bool)
          → M.sound (pick t (pick (M.sound st) (concluded M st (M.read (origin M st) (bytes_in p))) (untouched M st 4))
          (untouched M st 1)).state ≡ true
      go true = rw h (concluded-sound st (bytes_in p) h (M.read (origin M st) (bytes_in p)) refl)
      go false = h

  pub after-sound : (st : S) (es : List Event) → M.sound st ≡ true → M.sound (after M st es) ≡ true
  after-sound st [] h = h
  after-sound st (e ∷ es) h = after-sound (turn M st e).state es (turn-sound st e h)

  -- in a run from the fresh state neither 1 nor 4 arises, but for a range outside its buffer: what comes is the payload's own
  pub own_turn : (es : List Event) (p : Range) → is_there p ≡ true
      → turn M (after M M.fresh es) (payload p)
      ≡ concluded M (after M M.fresh es) (M.read (origin M (after M M.fresh es)) (bytes_in p))
  own_turn es p r = read-turn M (after M M.fresh es) p r (after-sound M.fresh es law.fresh-sound)

  pub own-report : (es : List Event)
      → turn M (after M M.fresh es) missing ≡ record { outcome = reported; state = M.lost (after M M.fresh es) }
  own-report es = rw (after-sound M.fresh es law.fresh-sound)

  -- a payload that was answered as a restart is answered so from every sound state, with the same state after it
  pub restart-turn : (st st' : S) (p : Range) → M.sound st' ≡ true → Restarting M (turn M st (payload p))
      → turn M st' (payload p) ≡ turn M st (payload p)
  restart-turn st st' p h w =
      let a = answered-turn M st p w.0 w.1 w.2 in
      comes (origin M st) st' p w.0 w.1 a.0 h a.2 w.3
      ∙ sym (comes (origin M st) st p w.0 w.1 a.0 a.1 a.2 w.3)
    where
      comes : (o st : S) (p : Range) (c : C) (n : ℕ) → is_there p ≡ true → M.sound st ≡ true
          → M.read o (bytes_in p) ≡ got c n → M.restart c ≡ true
          → turn M st (payload p) ≡ record { outcome = answered c n; state = M.carried M.fresh c }
      comes o st p c n r h e q =
          read-turn M st p r h
          ∙ ap (concluded M st) (law.same_read o (origin M st) (bytes_in p) c n e q)
          ∙ taken (M.in_step st)
        where
          taken : (t : Bool) → pick (t || M.restart c) (accepted M st c n) (losing M st 35 n)
              ≡ record { outcome = answered c n; state = M.carried M.fresh c }
          taken true = ap (λ (z : S). record { outcome = answered c n; state = z }) (law.same-carried (origin M st) M.fresh c q)
          taken false = rw q (ap (λ (z : S). record { outcome = answered c n; state = z }) (law.same-carried (origin M st) M.fresh c q))

  -- a turn that lost leaves the state out of step
  pub turn-lost : (st : S) (e : Event) → is_lost (turn M st e).outcome ≡ true → M.in_step (turn M st e).state ≡ false
  turn-lost st missing q = go (M.sound st) q
    where
      go : (t : Bool) → is_lost (pick t (record { outcome = reported; state = M.lost st }) (untouched M st 4)).outcome ≡ true
          → M.in_step (pick t (record { outcome = reported; state = M.lost st }) (untouched M st 4)).state ≡ false
      go true q = law.out-of-step st
      go false q = absurd (true-false false q refl)
  turn-lost st (payload p) q = in-range (is_there p) q
    where
      own : (a : Answer C) → is_lost (concluded M st a).outcome ≡ true → M.in_step (concluded M st a).state ≡ false
      own (refused n place) q = law.out-of-step st
      own (got c n) q = kind (M.in_step st || M.restart c) q
        where
          kind : (t : Bool) → is_lost (pick t (accepted M st c n) (losing M st 35 n)).outcome ≡ true
              → M.in_step (pick t (accepted M st c n) (losing M st 35 n)).state ≡ false
          kind true q = absurd (true-false false q refl)
          kind false q = law.out-of-step st

      sound : (t : Bool) → is_lost (pick t (concluded M st (M.read (origin M st) (bytes_in p))) (untouched M st 4)).outcome ≡ true
          → M.in_step (pick t (concluded M st (M.read (origin M st) (bytes_in p))) (untouched M st 4)).state ≡ false
      sound true q = own (M.read (origin M st) (bytes_in p)) q
      sound false q = absurd (true-false false q refl)

      in-range : (t : Bool)
          → is_lost (pick t (pick (M.sound st) (concluded M st (M.read (origin M st) (bytes_in p))) (untouched M st 4))
          (untouched M st 1)).outcome ≡ true
          → M.in_step (pick t (pick (M.sound st) (concluded M st (M.read (origin M st) (bytes_in p))) (untouched M st 4))
          (untouched M st 1)).state ≡ false
      in-range true q = sound (M.sound st) q
      in-range false q = absurd (true-false false q refl)

  -- out of step, an event that answers no restart elsewhere answers nothing, and leaves the state out of step
  pub quiet-turn : (st st' : S) (e : Event) → M.sound st' ≡ true → M.in_step st ≡ false → (Restarting M (turn M st' e) → ⊥)
      → (is_answer (turn M st e).outcome ≡ false) × (M.in_step (turn M st e).state ≡ false)
  quiet-turn st st' missing h o n = go (M.sound st)
    where
      go : (t : Bool) → (is_answer (pick t (record { outcome = reported; state = M.lost st }) (untouched M st 4)).outcome ≡ false)
          × (M.in_step (pick t (record { outcome = reported; state = M.lost st }) (untouched M st 4)).state ≡ false)
      go true = (refl, law.out-of-step st)
      go false = (refl, o)
  quiet-turn st st' (payload p) h o n = in-range (is_there p) refl
    where
      Quiet : Turn S C → Type 0
      Quiet t = (is_answer t.outcome ≡ false) × (M.in_step t.state ≡ false)

      own : is_there p ≡ true → M.sound st ≡ true → (a : Answer C) → M.read (origin M st) (bytes_in p) ≡ a
          → Quiet (concluded M st a)
      own r s (refused m place) q = (refl, law.out-of-step st)
      own r s (got c m) q = kind (M.restart c) refl
        where
          kind : (t : Bool) → M.restart c ≡ t → Quiet (pick (M.in_step st || M.restart c) (accepted M st c m) (losing M st 35 m))
          kind true e =
              let t : (turn M st (payload p)).outcome ≡ answered c m =
              ap (λ (z : Turn S C). z.outcome) (read-turn M st p r s) ∙ ap (λ (a : Answer C). (concluded M st a).outcome) q
              ∙ rw (o, e) in
              let w = restart-turn st st' p h (c, m, t, e) in
              absurd (n (c, m, ap (λ (z : Turn S C). z.outcome) w ∙ t, e))
          kind false e = rw (o, e) (refl, law.out-of-step st)

      sound : is_there p ≡ true → (t : Bool) → M.sound st ≡ t
          → Quiet (pick t (concluded M st (M.read (origin M st) (bytes_in p))) (untouched M st 4))
      sound r true s = own r s (M.read (origin M st) (bytes_in p)) refl
      sound r false s = (refl, o)

      in-range : (t : Bool) → is_there p ≡ t
          → Quiet (pick t (pick (M.sound st) (concluded M st (M.read (origin M st) (bytes_in p))) (untouched M st 4)) (untouched M st 1))
      in-range true r = sound r (M.sound st) refl
      in-range false r = (refl, o)
