-- For contracts of inner functions only: what answers with lent arrays mean, and what is known of them.
use Rattle.std.specs.Prelude.{ℕ, ◌≤◌, ◌<◌, get_or, ◌≡◌, List}
use Rattle.std.specs.Prelude.{Result, Ok, Err}
use Rattle.bits.specs.Reader.{Answer, got, refused, Reader}
use Rattle.bits.specs.InnerAnswers.{ended_answer}
use Rattle.bits.specs.declared.Refusal.{Refusal}
use Rattle.channel_bands.specs.Bands.{band_count}
use Rattle.channel_side.specs.Window.{Window, is_short, max_sfb}
use Rattle.channel_side.specs.Sections.{Covered}
use Rattle.channel_side.specs.Factors.{Factors}
use Rattle.channel_side.specs.Pulses.{Laid, Pulses}

-- what is known of a value that was read
abbrev pub Known : {A : Type 0} → (A → Type 0) → Result (A × ℕ) Refusal → Type 0
Known P (Ok r) = P r.0
Known P (Err e) = Unit

-- max_sfb is no more than the number of bands
abbrev pub Bounded : ℕ → Window → Type 0
Bounded index w = max_sfb w ≤ band_count index (is_short w)

-- a section has a band at least, and no more than there is room for
abbrev pub Fits : ℕ → Result (ℕ × ℕ) Refusal → Type 0
Fits room = Known (λ bands. (1 ≤ bands) × (bands ≤ room))

-- the bands of a group that are covered, with what the lent books hold afterwards
abbrev pub covered_answer : Result (ℕ × ℕ) Refusal → List ℕ → Answer Covered
covered_answer (Ok r) books = got (record { count = r.0; books = books }) r.1
covered_answer (Err e) books = refused e.number e.place

-- a section covers a band at least, and none past max_sfb
abbrev pub Further : ℕ → ℕ → Result (ℕ × ℕ) Refusal → Type 0
Further count max_sfb = Known (λ covered. (count < covered) × (covered ≤ max_sfb))

-- the last scale factor, with what the lent array holds afterwards
abbrev pub factor_answer : Result (ℕ × ℕ) Refusal → List ℕ → Answer Factors
factor_answer (Ok r) values = got (record { last = r.0; values = values }) r.1
factor_answer (Err e) values = refused e.number e.place

-- a scale factor is at most 255
abbrev pub Small : Result (ℕ × ℕ) Refusal → Type 0
Small = Known (λ last. last ≤ 255)

-- no line is above 1023
pub record Low (lines : List ℕ) : Type 0 where
  pub at : (k : ℕ) → get_or lines k 0 ≤ 1023

-- pulses so far: none is past the last line of a window
abbrev pub Within : Laid → Type 0
Within x = (x.last ≤ 1024) × Low x.lines

-- four pulses at most, none past the last line of a window
abbrev pub Applicable : Pulses → Type 0
Applicable x = (x.count ≤ 4) × Low x.lines

-- what a reader that reads nothing answers, whatever the bytes and the end are
abbrev pub Always : {A : Type 0} → Result ℕ Refusal → A → Reader A → ℕ → Type 0
Always r a reader at = (s : List ℕ) (end : ℕ) → ended_answer r a ≡ reader s at end
