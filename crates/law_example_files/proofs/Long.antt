-- The checker computes what is answered near the size limit, from the definitions.
-- Assumes nothing.
use mathlib.Core.Path.{◌≡◌, refl}
use mathlib.Core.Bool.{true}
use Rattle.ground.specs.Lists.{all, member, same, part, overlay}
use Rattle.ground.specs.Choice.{both, either, fails, pick, one, between}
use Rattle.ground.specs.First.{first_that}
use Rattle.text.specs.Letters.{letters}
use Rattle.text.specs.Numbers.{digit_value, hex_value, decimal_from, hex_from, hex_character, hex_digits, decimal_digits}
use Rattle.text.specs.Characters.{field_character, internal, hex_digit, padded}
use Rattle.des.specs.Des.{select, box, substitute_from, mixed, feistel, cipher_by, rotated, keys_from, schedule_of, row, times, named}
use Rattle.digest.specs.Kept.{is_empty, stripped, kept_of, kept, answer_of, digest_of}
use Rattle.digest.specs.Mac.{bytes_from, block_of, blocks_from, chained, mac, checksum_of}
use Rattle.calendar.specs.Dates.{leap, days_in, real_date, real_time, earlier, years_before, months_before, day_number, in_year, from_year, date_of}
use Rattle.calendar.specs.Dates.{later}
use Rattle.calendar.specs.Banking.{banking_day, banking_among, banking_days_after, too_old, first_good, earliest_good}
use Rattle.keys.specs.Parity.{ones, parity_byte, parity_bytes, odd_bytes}
use Rattle.keys.specs.Keys.{combined, check_value, working_key0, next_generation}
use Rattle.keys.specs.Maker.{random, made_of, clock_value}
use Rattle.customer.specs.Customer.{sound_previous, sound_keys, real_stamp, sound_once, sound_stamps, sound_customer}
use Rattle.customer.specs.Settings.{sound_name, sound_who, sound_settings}
use Rattle.changeover.specs.Held.{previous_named, held_key, previous_good, good_for, changing}
use Rattle.changeover.specs.Changes.{changed, with_keys, with_transport, with_working, without_previous}
use Rattle.acceptance.specs.Grants.{on_acceptance, granted_by}
use Rattle.acceptance.specs.Stamps.{holds_stamp, live_of, once_used, with_stamp}
use Rattle.table.specs.Named.{customer_at, replaced_at, with_named}
use Rattle.table.specs.Table.{previous_fits, customer_fits, settings_fit, rising, place_from, is_unknown, distinct, each_sound, sound_table}
use Rattle.table.specs.Table.{place_of, nobody, customer_in, with_customer, with_added, with_day, with_seed}
use Rattle.message.specs.Layout.{total, offset_in, width_in, name_in, field_text, layout, layout_length}
use Rattle.message.specs.Order.{first_failing}
use Rattle.message.specs.Rules.{hex_fields, format_holds, one_of, methods, is_exact, length_rules, common_rules, own_rules, obeys}
use Rattle.message.specs.Rules.{is_short, format_fails, value_fails}
use Rattle.message.specs.Rules.{each_field, form_checks}
use Rattle.message.specs.Fields.{receiver_of, sender_of, stamp_text_of, stamp_of, date_of_stamp, version_of, method_of, transport_generation_of}
use Rattle.message.specs.Fields.{working_generation_of, once_field_of, digest_field_of, checksum_field_of, request_of}
use Rattle.checks.specs.Checks.{type_allowed, checksum_differs, digest_differs, is_missing, key_or0, too_old_version, party_checks, stamp_checks}
use Rattle.checks.specs.Checks.{room_checks}
use Rattle.checks.specs.Checks.{esi_key_checks, type_checks, esi_checks, pair_checks, key_checks, frame_checks}
use Rattle.verdict.specs.Outcomes.{grant_to, record_after, table_after, outcome_of, is_sound, table_by, esi_outcome, esi_table, frame_outcome}
use Rattle.verdict.specs.Outcomes.{frame_table, stored_at, bytes_after, bytes_by, esi_leaves, frame_leaves}
use Rattle.message.specs.Contents.{contents_as, held_in, at_fault}
use Rattle.notice.specs.Codes.{code_in, field_name, shown_byte, value_text, text_of}
use Rattle.reply.specs.Reply.{clock_text, notice_of, hex_or, sealed, sealed_flag, joined, head, summed, checksum_key}
use Rattle.reply.specs.Reply.{enclosed_key, reply_of, reply_length, replied, written_length}
use Rattle.answers.specs.Answers.{bare_answer, full_answer, verdict_answer}
use Rattle.whole_file.specs.WholeFile.{moved, silent, replies, esi_says, pte_says, occasion, after_esi, esi_ends, suo_ends, frame_of, var_ends}
use Rattle.whole_file.specs.WholeFile.{esi_goes_on, suo_goes_on, var_goes_on, esi_starts, suo_starts, var_starts, first_record, outside_record}
use Rattle.whole_file.specs.WholeFile.{with_record, frame_record, record_in, past_in, end_in, given_at, sooner, told_of, at_start, whole_file}
use Rattle.whole_file.specs.Messages.{begins, extent_of, is_whole, wanted_length, wants_more, known_text, collected_as, one_time, transport_held}
use Rattle.whole_file.specs.Messages.{one_time_of, once_of}
use Rattle.whole_file.specs.Records.{without_cr, last_item, grown, ended_by, items_from}
use Rattle.law_examples.specs.Bank.{bank_with, esi, suo, var}
use Rattle.law_example_files.specs.Files.{hello, shown, answers, line, stating, goes_on, late_standing, late_answers}
use Rattle.law_examples.specs.Examples.{hold_all}
use Rattle.law_example_files.specs.Files.{long_files}

pub long_files_lem : hold_all long_files ≡ true
unfolding all member same part overlay both either fails pick one between letters digit_value hex_value decimal_from hex_from hex_character
    hex_digits decimal_digits field_character internal hex_digit padded select box substitute_from mixed feistel cipher_by rotated keys_from
    schedule_of row times named is_empty stripped kept_of kept answer_of digest_of bytes_from block_of blocks_from chained mac checksum_of leap
    days_in real_date real_time earlier years_before months_before day_number in_year from_year date_of later banking_day banking_among
    banking_days_after too_old first_good earliest_good ones parity_byte parity_bytes odd_bytes combined check_value working_key0 next_generation
    random made_of clock_value sound_previous sound_keys real_stamp sound_once sound_stamps sound_customer sound_name sound_who sound_settings
    previous_named held_key previous_good good_for changing changed with_keys with_transport with_working without_previous first_that on_acceptance
    granted_by holds_stamp live_of once_used with_stamp customer_at replaced_at with_named previous_fits customer_fits settings_fit
    rising place_from is_unknown distinct each_sound sound_table place_of nobody customer_in with_customer with_added with_day with_seed total
    offset_in width_in name_in field_text layout layout_length hex_fields format_holds one_of methods is_exact length_rules common_rules own_rules obeys is_short
    format_fails value_fails each_field form_checks receiver_of sender_of stamp_text_of stamp_of date_of_stamp version_of method_of
    transport_generation_of working_generation_of once_field_of digest_field_of checksum_field_of request_of first_failing type_allowed
    checksum_differs digest_differs is_missing key_or0 too_old_version party_checks stamp_checks room_checks esi_key_checks type_checks esi_checks pair_checks
    key_checks frame_checks grant_to record_after table_after outcome_of is_sound table_by esi_outcome esi_table frame_outcome frame_table stored_at
    bytes_after bytes_by esi_leaves frame_leaves contents_as held_in at_fault code_in field_name shown_byte value_text text_of clock_text notice_of hex_or
    sealed sealed_flag joined head summed checksum_key enclosed_key reply_of reply_length replied written_length bare_answer full_answer
    verdict_answer moved
    silent replies esi_says pte_says occasion after_esi esi_ends suo_ends frame_of var_ends esi_goes_on suo_goes_on var_goes_on esi_starts suo_starts
    var_starts first_record outside_record with_record frame_record record_in past_in end_in given_at sooner told_of at_start whole_file begins
    wanted_length known_text extent_of is_whole wants_more collected_as one_time transport_held one_time_of once_of without_cr
    last_item grown ended_by items_from bank_with esi suo var shown answers line stating goes_on late_standing late_answers hold_all
    Rattle.table.specs.Named.named Rattle.law_example_files.specs.Files.opening hello
    Rattle.law_example_files.specs.Files.replied
long_files_lem = refl
