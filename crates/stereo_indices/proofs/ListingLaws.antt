-- A loop that fills a list from its front, each element read by what stands before it: what a turn, a refusal and the end say of the reader
-- that lists them. Every loop over envelopes or bands goes so.
-- Assumes nothing.
use Prim.Native.Nat.{ℕ, ◌+◌, ◌-◌, ◌<◌, ◌≤◌}
use mathlib.Core.Path.{◌≡◌, sym, ◌∙◌, ap}
use mathlib.Core.List.{List, []}
use native.Mathlib.Omega.{arith}
use lib.ListN.{take, set, replicate}
use Rattle.bits.specs.Reader.{got, refused, Reader, give, ◌>>=◌}
use Rattle.bits.specs.Lists.{padded}
use Rattle.bits.specs.Loop.{counted, more, listed}
use Rattle.bits.proofs.LoopLaws.{counted_start, counted-more, counted_stop, counted-done, more-got, more-refused}
use Rattle.bits.proofs.PaddedLaws.{Filled, filled_none, filled-set, taken-set, filled-padded}

-- n elements, in a list of so many
abbrev pub filling : {A : Type 0} → ℕ → A → ℕ → (List A → Reader A) → Reader (List A)
filling size z n f = listed n f >>= λ xs. give (padded size z xs)

module _ {A : Type 0} (size : ℕ) (z : A) (n : ℕ) (f : List A → Reader A) (s : List ℕ) (at end : ℕ) where
  -- after k turns the first k elements are those that the reader has read, and the rest is as it was made
  pub record Listing (xs : List A) (place k : ℕ) : Type 0 where
    pub filled : Filled size z k xs
    pub so_far : counted 0 n (more f) [] s at end ≡ counted k (n - k) (more f) (take k xs) s place end

  pub listing_start : Listing (replicate size z) at 0
  listing_start = record { filled = filled_none size z; so_far = counted_start (more f) n [] s at end }

  pub listing-more : {xs : List A} {place k next : ℕ} {x : A} → n ≤ size → k < n → Listing xs place k
      → f (take k xs) s place end ≡ got x next → Listing (set xs k x) next (k + 1)
  listing-more {xs} {place} {k} {next} {x} g h l q = record {
    filled = filled-set size z k xs x l.filled;
    so_far = l.so_far ∙ counted-more (more f) k n (take k xs) _ s place end next h
        (more-got f k (take k xs) x s place end next q
        ∙ ap (λ (ys : List A). got ys next) (sym (taken-set size z k xs x (omega arith) l.filled)));
  }

  pub listing-refused : {xs : List A} {place k r p : ℕ} → k < n → Listing xs place k → f (take k xs) s place end ≡ refused r p
      → refused r p ≡ filling size z n f s at end
  unfolding listed
  listing-refused {xs} {place} {k} {r} {p} h l q =
      let e = l.so_far ∙ counted_stop (more f) k n (take k xs) s place end r p h (more-refused f k (take k xs) s place end r p q) in rw e

  pub listing-done : {xs : List A} {place k : ℕ} → n ≤ size → k ≤ n → n ≤ k → Listing xs place k
      → got xs place ≡ filling size z n f s at end
  unfolding listed
  listing-done {xs} {place} {k} g i h l =
      let e = l.so_far ∙ counted-done (more f) k n (take k xs) s place end h in
      rw e (ap (λ (ys : List A). got ys place) (sym (filled-padded size z k xs (omega arith) l.filled)))
