-- All definitions of the stereo payload, open: a theorem that computes says `unfolding all`.
use Rattle.bits.specs.Bits.{bit_at, bits_from}
use Rattle.bits.specs.Field.{field, zero_bit}
use Rattle.bits.specs.Loop.{counted, listed}
use Rattle.bits.specs.Places.{here, refuse_at}
use Rattle.bits.specs.Inside.{inside, left_over}
use Rattle.bits.specs.Payload.{ended, whole}
use Rattle.words.specs.Words.{fits, cut_off, scan, word}
use Rattle.tables.specs.GeneratedWords.{all_codes, all_lens}
use Rattle.stereo_indices.specs.Kind.{bands, least, most, within}
use Rattle.stereo_indices.specs.Difference.{difference_table, difference, middle, added}
use Rattle.stereo_indices.specs.Record.{zeros, none, agrees, sound_index, sound_from, sound_record}
use Rattle.stereo_indices.specs.Indices.{reference, index_from, index, indices}
use Rattle.stereo_indices.specs.Rows.{no_row, no_rows, row, rows_of, rows}
use Rattle.stereo.specs.State.{fresh_setup, fresh, sound_setup, sound}
use Rattle.stereo.specs.Header.{no_header, mode, switch, header_fields, header, setup_after}
use Rattle.stereo.specs.Frame.{envelope_count, no_borders, borders_of, borders, no_frame, frame}
use Rattle.stereo.specs.Extension.{no_phases, no_body, no_part, no_extension, phases_in, phases_of, phases, phase_flag, v0, another}
use Rattle.stereo.specs.Extension.{part, announced, esc_count, extension_sent, extension}
use Rattle.stereo.specs.Payload.{no_contents, envelopes, payload}
use Rattle.stereo.specs.Carried.{record_after, phase_records, carried_in, carried}
use Rattle.stereo.specs.Restart.{phases_across, restart}

unfoldable pub all : Unit {0}
unfolding bit_at bits_from field zero_bit counted listed here refuse_at inside left_over ended whole fits cut_off scan word all_codes
    all_lens
    bands least most within difference_table difference middle added zeros none agrees sound_index sound_from sound_record reference
    index_from index indices no_row no_rows row rows_of rows fresh_setup fresh sound_setup sound no_header mode switch header_fields header
    setup_after envelope_count no_borders borders_of borders no_frame frame no_phases no_body no_part no_extension phases_in phases_of
    phases phase_flag v0 another part announced esc_count extension_sent extension no_contents envelopes payload record_after
    phase_records carried_in carried phases_across restart
all = tt
