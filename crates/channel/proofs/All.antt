-- All definitions of the channel stream, open: what computes says `unfolding all`.
use Rattle.bits.specs.Bits.{bit_at, bits_from}
use Rattle.bits.specs.Field.{field, zero_bit}
use Rattle.bits.specs.Loop.{counted, turns, while}
use Rattle.bits.specs.Places.{one_field, here}
use Rattle.bits.specs.Payload.{ended, whole}
use Rattle.words.specs.Words.{fits, cut_off, scan, word}
use Rattle.words.specs.Escape.{ones, magnitude, escape}
use Rattle.tables.specs.GeneratedWords.{all_codes, all_lens}
use Rattle.channel_bands.specs.Bands.{long34, short34, long67, short67, bands, band_count, first_line, band_width}
use Rattle.channel_bands.specs.Grouping.{groups_from, groups_after, groups_of}
use Rattle.channel_words.specs.Books.{books, book_of}
use Rattle.channel_words.specs.Tuple.{spectral_word, digit, signed, value, escape_at, escaped, tuple, put}
use Rattle.channel_lines.specs.Spectrum.{band_word, band, windows_band, group_band, group_lines, spectrum}
use Rattle.channel_side.specs.Window.{window_sequence, max_sfb_of, grouping_of, window_bands, window}
use Rattle.channel_side.specs.Sections.{increment, section_length, section_book, fill, section, group_sections, width_of, group_books}
use Rattle.channel_side.specs.Sections.{sections}
use Rattle.channel_side.specs.Factors.{factor, band_factor, first_factors, scale_factors}
use Rattle.channel_side.specs.Pulses.{pulse, each_pulse, start_band, pulse_data, pulses, pulsed, changed, apply_pulse, apply_pulses}
use Rattle.channel.specs.Stream.{head_of, no_tools, unpulsed, coded_of, stream_with, stream_after, stream}

unfoldable pub all : Unit {0}
unfolding bit_at bits_from field zero_bit counted turns while one_field here ended whole fits cut_off scan word ones magnitude escape
    all_codes all_lens long34 short34 long67 short67 bands band_count first_line band_width groups_from groups_after groups_of books
    book_of spectral_word digit signed value escape_at escaped tuple put band_word band windows_band group_band group_lines spectrum
    window_sequence max_sfb_of grouping_of window_bands window increment section_length section_book fill section group_sections width_of
    group_books sections factor band_factor first_factors scale_factors pulse each_pulse start_band pulse_data pulses pulsed changed
    apply_pulse apply_pulses head_of no_tools unpulsed coded_of stream_with stream_after stream
all = tt
