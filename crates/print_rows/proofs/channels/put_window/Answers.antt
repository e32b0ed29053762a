-- The form, and the groups after it, of which there are at most 255.
-- Assumes nothing.
use mathlib.Core.Path.{◌≡◌}
use mathlib.Core.List.{[], ◌∷◌}
use native.Mathlib.Omega.{arith}
use lib.ListN.{length, take}
use Rattle.print_lines.specs.InnerText.{ascii, line}
use Rattle.print_lines.proofs.TextLaws.{form_short, two-held}
use Rattle.print_rows.specs.InnerEach.{numbers_text}
use Rattle.print_rows.specs.InnerChannelRows.{window_row}
use Rattle.print_rows.proofs.EachLaws.{numbers-short}
use borrow.Author.Rules.{rules}
use Rattle.print_rows.proofs.channels.put_window.Goals as goal

pub returns : goal.returns
unfolding window_row
returns c =
    let a = c.args in
    let r = a.r in
    let marked = r.sequence ∷ r.shape ∷ r.max_sfb ∷ [] in
    let eight : 8 ≡ length r.groups = search rules in
    two-held a.line.now (line "  window # shape # max_sfb # groups" marked) (numbers_text (take r.group_count r.groups))
    c.put_form-at.ensures c.put_bytes.ensures
    (omega (
      arith,
      form_short (ascii "  window # shape # max_sfb # groups") marked,
      numbers-short r.group_count r.groups,
      c.requires,
    ))
