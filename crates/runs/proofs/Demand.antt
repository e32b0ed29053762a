-- After any damage to a run, from the first intact restart on outcomes and states equal those of the unspoilt run; and
-- between a stretch that was wholly refused or reported missing and that restart nothing is answered.
-- Assumes nothing.
use Prim.Native.Nat.{ℕ, suc}
use mathlib.Core.Path.{◌≡◌, refl, sym, ◌∙◌, ap}
use mathlib.Core.List.{List, [], ◌∷◌, ◌++◌}
use mathlib.Core.Bool.{true, false}
use mathlib.Core.Logic.{◌≢◌}
use native.Mathlib.Nat.{add-zero}
use lib.ListN.{length, drop}
use lib.Seq.{drop-append-add}
use Rattle.bits.specs.Payload.{Range}
use Rattle.runs.specs.Machine.{Event, payload, Machine, Turn, turn, run, after}
use Rattle.runs.specs.Damage.{Steady, Restarting, NoRestart, Silent, AllLost}
use Rattle.runs.proofs.TurnLaws.{turn-sound, after-sound, restart-turn, turn-lost, quiet-turn}

-- events joined: a run goes on from the state that the first ones left
pub after-append : {S C : Type 0} (M : Machine S C) (st : S) (es fs : List Event) → after M st (es ++ fs) ≡ after M (after M st es) fs
after-append M st [] fs = refl
after-append M st (e ∷ es) fs = after-append M (turn M st e).state es fs

pub run-append : {S C : Type 0} (M : Machine S C) (st : S) (es fs : List Event)
    → run M st (es ++ fs) ≡ run M st es ++ run M (after M st es) fs
run-append M st [] fs = refl
run-append {S} {C} M st (e ∷ es) fs = ap (λ (ts : List (Turn S C)). turn M st e ∷ ts) (run-append M (turn M st e).state es fs)

run_long : {S C : Type 0} (M : Machine S C) (st : S) (es : List Event) → length (run M st es) ≡ length es
run_long M st [] = refl
run_long M st (e ∷ es) = ap suc (run_long M (turn M st e).state es)

-- what a run comes to after its first events
pub run-from : {S C : Type 0} (M : Machine S C) (st : S) (es fs : List Event)
    → drop (length es) (run M st (es ++ fs)) ≡ run M (after M st es) fs
run-from {S} {C} M st es fs =
    ap (drop (length es)) (run-append M st es fs)
    ∙ ap (λ (n : ℕ). drop n (run M st es ++ run M (after M st es) fs)) (sym (run_long M st es) ∙ sym (add-zero (length (run M st es))))
    ∙ drop-append-add (run M st es) (run M (after M st es) fs) 0

module _ {S C : Type 0} (M : Machine S C) (law : Steady M) where
  -- from a restart on all is the same, whatever was before
  from-restart : (st st' : S) (p : Range) (rest : List Event) → M.sound st' ≡ true → Restarting M (turn M st (payload p))
      → run M st' (payload p ∷ rest) ≡ run M st (payload p ∷ rest)
  from-restart st st' p rest h w = ap (λ (t : Turn S C). t ∷ run M t.state rest) (restart-turn M law st st' p h w)

  -- a stretch that is not empty and was wholly lost leaves the state out of step
  stretch-lost : (st : S) (e : Event) (es : List Event) → AllLost (run M st (e ∷ es)) → M.in_step (after M st (e ∷ es)) ≡ false
  stretch-lost st e [] q = turn-lost M law st e q.0
  stretch-lost st e (f ∷ es) q = stretch-lost (turn M st e).state f es q.1

  -- out of step, events that are no restart in the other run answer nothing
  quiet-run : (st st' : S) (es : List Event) → M.sound st' ≡ true → M.in_step st ≡ false → NoRestart M (run M st' es)
      → Silent (run M st es)
  quiet-run st st' [] h o n = tt
  quiet-run st st' (e ∷ es) h o n =
      let q = quiet-turn M law st st' e h o n.0 in
      (q.0, quiet-run (turn M st e).state (turn M st' e).state es (turn-sound M law st' e h) q.1 n.1)

  -- the demand: in place of a stretch of a run stand any other events; between it and the payload none is a restart; the payload is one
  module _ (before stretch spoilt between : List Event) (p : Range) (rest : List Event) where
    pub restored : Restarting M (turn M (after M M.fresh (before ++ stretch ++ between)) (payload p))
        → run M (after M M.fresh (before ++ spoilt ++ between)) (payload p ∷ rest)
        ≡ run M (after M M.fresh (before ++ stretch ++ between)) (payload p ∷ rest)
    restored w =
        from-restart (after M M.fresh (before ++ stretch ++ between)) (after M M.fresh (before ++ spoilt ++ between)) p rest
        (after-sound M law M.fresh (before ++ spoilt ++ between) law.fresh-sound) w

    pub nothing-between : spoilt ≢ [] → AllLost (run M (after M M.fresh before) spoilt)
        → NoRestart M (run M (after M M.fresh (before ++ stretch)) between)
        → Silent (run M (after M M.fresh (before ++ spoilt)) between)
    nothing-between d q n = go spoilt d q
      where
        go : (es : List Event) → es ≢ [] → AllLost (run M (after M M.fresh before) es)
            → Silent (run M (after M M.fresh (before ++ es)) between)
        go [] d q = absurd (d refl)
        go (e ∷ es) d q =
            quiet-run (after M M.fresh (before ++ e ∷ es)) (after M M.fresh (before ++ stretch)) between
            (after-sound M law M.fresh (before ++ stretch) law.fresh-sound)
            (ap M.in_step (after-append M M.fresh before (e ∷ es)) ∙ stretch-lost (after M M.fresh before) e es q) n
