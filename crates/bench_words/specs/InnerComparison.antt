-- For contracts of inner functions only: what a word is to a window of bits.
use Rattle.std.specs.Prelude.{ℕ, ◌-◌, ◌/◌, ◌^◌, leb, eqb}
use Rattle.bits.specs.Reader.{pick}
use Rattle.bench_words.specs.declared.scan.Comparison.{Comparison}
use Rattle.bench_words.specs.declared.scan.Comparison.TheVariants.{Fits, Cut, Neither}

-- the word c of l bits, to the m bits w
abbrev pub compared : ℕ → ℕ → ℕ → ℕ → Comparison
compared w m c l = pick (leb l m) (pick (eqb (w / 2 ^ (m - l)) c) Fits Neither) (pick (eqb w (c / 2 ^ (l - m))) Cut Neither)
