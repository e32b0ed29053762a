-- A run of the lists is the table's own, so the scan of any table reads it.
use mathlib.Core.Path.{◌∙◌}
use borrow.Author.Rules.{rules}
use Rattle.tables.proofs.PlaceLaws.{place_in}
use Rattle.tables.specs.GeneratedNames.{table_at}
use Rattle.bench_words.proofs.TableLaws.{run-usable, place_is, stands}
use Rattle.bench_words.proofs.ByScanReadsWords.word.Goals as goal

pub offset_bounds-self-first : goal.offset_bounds-self-first
offset_bounds-self-first c = let s = stands c.args.self.now.all c.args.t c.requires in search rules

pub slice_bounds-read_word-count : goal.slice_bounds-read_word-count
slice_bounds-read_word-count c = let s = stands c.args.self.now.all c.args.t c.requires in search rules

pub slice_bounds-read_word-start : goal.slice_bounds-read_word-start
slice_bounds-read_word-start c = let s = stands c.args.self.now.all c.args.t c.requires in search rules

pub slice_bounds-read_word-end : goal.slice_bounds-read_word-end
slice_bounds-read_word-end c = let s = stands c.args.self.now.all c.args.t c.requires in search rules

pub slice_bounds-read_word-count-2 : goal.slice_bounds-read_word-count-2
slice_bounds-read_word-count-2 c = let s = stands c.args.self.now.all c.args.t c.requires in search rules

pub slice_bounds-read_word-start-2 : goal.slice_bounds-read_word-start-2
slice_bounds-read_word-start-2 c = let s = stands c.args.self.now.all c.args.t c.requires in search rules

pub slice_bounds-read_word-end-2 : goal.slice_bounds-read_word-end-2
slice_bounds-read_word-end-2 c = let s = stands c.args.self.now.all c.args.t c.requires in search rules

pub read_word-requires : goal.read_word-requires
read_word-requires c =
    let s = c.args.self.now.all in
    let i = place_is c.args.t c.requires in
    rw (s.0, s.1, s.2, i.1, i.0) (run-usable (table_at c.args.t).first (table_at c.args.t).count (place_in c.args.t))

pub returns : goal.returns
returns c =
    let s = c.args.self.now.all in
    let i = place_is c.args.t c.requires in
    c.read_word.ensures ∙ rw (s.0, s.1, s.2, i.1, i.0)
