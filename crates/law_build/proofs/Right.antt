-- One table, one desk, an ESI and a batch after it: the checker computes that each premise holds there, the batch's on the table as the ESI left
-- it, and that nothing is refused. Worked has the calls' bytes.
-- Assumes nothing.
use Rattle.std.specs.Prelude.{None}
use Prim.Native.Nat.{ℕ}
use mathlib.Core.Path.{◌≡◌, refl}
use mathlib.Core.Bool.{true, false}
use mathlib.Core.List.{List, [], ◌∷◌}
use lib.ListN.{replicate}
use Rattle.ground.specs.Lists.{all, member, same, part}
use Rattle.ground.specs.Choice.{both, either, fails, pick, one, between}
use Rattle.ground.specs.First.{first_that}
use Rattle.text.specs.Letters.{letters}
use Rattle.text.specs.Numbers.{digit_value, decimal_from, hex_character, hex_digits, decimal_digits, hex_value, hex_from}
use Rattle.text.specs.Characters.{field_character, internal, hex_digit}
use Rattle.des.specs.Des.{select, box, substitute_from, mixed, feistel, cipher_by, rotated, keys_from, schedule_of}
use Rattle.digest.specs.Kept.{is_empty, stripped, kept_of, kept}
use Rattle.digest.specs.Mac.{bytes_from, block_of, blocks_from, chained, mac, checksum_of}
use Rattle.digest.specs.Running.{begun, fed_byte, closed, answered, alike, took_byte, took_bytes, ended}
use Rattle.digest.specs.declared.Method.{Method}
use Rattle.digest.specs.declared.Method.TheVariants.{Skh, Ske}
use Rattle.calendar.specs.Dates.{dated, leap, days_in, real_date, real_time, earlier, years_before, months_before, day_number}
use Rattle.calendar.specs.Banking.{banking_among, banking_days_after, too_old}
use Rattle.keys.specs.Parity.{ones, parity_byte, parity_bytes, odd_bytes}
use Rattle.keys.specs.Maker.{random, made_of, clock_value}
use Rattle.keys.specs.declared.KeyMaker.{KeyMaker}
use Rattle.customer.specs.Customer.{sound_previous, sound_keys, sound_stamps, sound_customer}
use Rattle.customer.specs.Settings.{sound_name, sound_who, sound_settings}
use Rattle.customer.specs.declared.Customer.{Customer}
use Rattle.customer.specs.declared.KeyPair.{KeyPair}
use Rattle.changeover.specs.Held.{previous_named, held_key, previous_good, good_for, changing}
use Rattle.acceptance.specs.Stamps.{holds_stamp, live_of, once_used, with_stamp}
use Rattle.acceptance.specs.Grants.{on_acceptance, granted_by}
use Rattle.table.specs.Named.{customer_at, named, replaced_at, with_named}
use Rattle.table.specs.Table.{Table, previous_fits, customer_fits, settings_fit, rising, place_from, is_unknown, distinct, each_sound, sound_table}
use Rattle.table.specs.Table.{place_of, customer_in, with_customer, with_seed}
use Rattle.message.specs.Layout.{total, offset_in, width_in, field_text, layout, layout_length}
use Rattle.message.specs.Order.{first_failing}
use Rattle.message.specs.Rules.{hex_fields, format_holds, one_of, methods, is_exact, length_rules, common_rules, own_rules, obeys, is_short}
use Rattle.message.specs.Rules.{format_fails, value_fails, each_field, form_checks}
use Rattle.message.specs.Fields.{method_of, receiver_of, sender_of, stamp_text_of, stamp_of, date_of_stamp, version_of, transport_generation_of}
use Rattle.message.specs.Fields.{working_generation_of, checksum_field_of, request_of}
use Rattle.checks.specs.Checks.{type_allowed, checksum_differs, too_old_version, party_checks, stamp_checks}
use Rattle.checks.specs.Checks.{room_checks, esi_key_checks, esi_checks}
use Rattle.verdict.specs.Outcomes.{is_sound, grant_to, record_after, table_after, outcome_of, table_by, esi_outcome, esi_table}
use Rattle.refusals.specs.Refusals.{lowest}
use Rattle.notice.specs.Codes.{code_in}
use Rattle.reply.specs.Reply.{joined}
use Rattle.opening.specs.declared.Opening.{Opening}
use Rattle.whole_file.specs.Records.{without_cr, last_item, grown, ended_by, items_from, lf, items_of}
use Rattle.whole_file.specs.Messages.{begins, known_text, extent_of, is_whole, wanted_length, wants_more, collected_as}
use Rattle.whole_file.specs.WholeFile.{replies, occasion, after_esi, esi_ends}
use Rattle.whole_file.specs.WholeFile.{esi_goes_on, esi_starts, first_record}
use Rattle.whole_file.specs.WholeFile.{record_in, at_start}
use Rattle.whole_file.specs.WholeFile.{Standing, outside}
use Rattle.desk.specs.declared.Held.{Held}
use Rattle.law_desk.specs.Desks.{stands_after, item_step}
use Rattle.build.specs.Messages.{tag_of, size_of, esi_built, suo_built, var_built}
use Rattle.build.specs.Building.{breaks_rules, other_generation, building_refusals, message_by, esi_building, suo_made, suo_refusal, suo_building}
use Rattle.build.specs.Building.{record_added, digest_number, var_made, var_building}
use Rattle.build.specs.declared.Given.{Given}
use Rattle.law_build.specs.Premises.{MaySend, MaySendBatch, IsData, LeavesSomething}
use Rattle.law_build.proofs.ByValue.{all_added, Built, esi_of}
use Rattle.law_build.specs.Accepted.{lines}

-- ---- one table, one desk, one stamp, one record

abbrev pub key : ℕ
key = 0x0123456789ABCDEF

abbrev keys : KeyPair
keys = record { generation = 1; key = key; previous = None }

abbrev own : List ℕ
own = letters "CUSTOMER         QUALI110"

abbrev bank : List ℕ
bank = letters "BANK                     "

abbrev pub software : List ℕ
software = letters "SOFTWARE        "

abbrev pub stamp : List ℕ
stamp = letters "010201112001001"

abbrev pub batch_stamp : List ℕ
batch_stamp = letters "010201112001002"

-- a customer who holds so many stamps
abbrev customer : (count : ℕ) (stamps : List ℕ) → Customer
customer count stamps =
    record {
      who = own;
      types = 1;
      agreed = true;
      leave = true;
      length = record { 0 = 7 };
      transport = keys;
      working = keys;
      count = count;
      stamps = stamps;
      once = replicate 64 0;
    }

abbrev pub maker : KeyMaker
maker = record { key = key; seed = 0 }

abbrev bank_of : Customer → Table
bank_of c =
    record {
      day = 10201;
      settings = record { bank = bank; software = software; floor = 110; maker = maker };
      holidays = [];
      customers = c ∷ [];
    }

abbrev pub table : Table
table = bank_of (customer 0 (replicate 64 0))

abbrev pub opening : Opening
opening = record { today = dated 10201; time = 112500; kind = 1; clock = 0 }

abbrev pub desk : Held
desk =
    record {
      own = own;
      bank = bank;
      transport = record { generation = 1; key = key; before = None };
      working = record { generation = 1; key = key; before = None };
    }

abbrev pub given : Given
given = record { software = software; method = letters "SKH"; stamp = batch_stamp; area = 0x53 }

abbrev pub letter : List ℕ
letter = letters "A"

-- where the reading stands after the ESI
abbrev pub after : Standing
after =
    record {
      situation = outside false;
      table = bank_of (customer 1 (10201112001001 ∷ replicate 63 0));
      made = 0;
      sender = own;
    }

-- ---- the premises

pub sound : sound_table table ≡ true
unfolding all both either fails one between letters field_character leap days_in real_date ones odd_bytes sound_previous sound_keys sound_stamps
    sound_customer sound_name sound_who sound_settings previous_fits customer_fits settings_fit rising place_from is_unknown distinct each_sound sound_table
sound = refl

pub may_send : MaySend table (dated 10201) desk stamp
unfolding member same both either fails pick one between letters digit_value decimal_from leap days_in earlier years_before months_before day_number
    banking_among banking_days_after too_old holds_stamp live_of place_from is_unknown place_of customer_in customer_at named
may_send =
    record {
      known = refl;
      agreed = refl;
      fresh = refl;
      not_too_old = refl;
      not_ahead = refl;
      room = refl;
      this_bank = refl;
      same_keys = record { transport_generation = refl; transport_key = refl; working_generation = refl; working_key = refl };
    }

-- the ESI is accepted, and the customer holds its stamp from there on
pub stands : stands_after opening (at_start table) (items_of (lines (lf ∷ []) (esi_of desk software stamp 0x30 ∷ []))) ≡ after
unfolding all member same part both either fails pick one between first_that letters digit_value hex_value decimal_from hex_from hex_character
    hex_digits decimal_digits field_character internal hex_digit select box substitute_from mixed feistel cipher_by rotated keys_from schedule_of bytes_from
    block_of blocks_from chained mac checksum_of leap days_in real_date real_time earlier years_before months_before day_number banking_among
    banking_days_after too_old previous_named held_key previous_good good_for changing on_acceptance granted_by holds_stamp live_of with_stamp
    customer_at named replaced_at with_named place_from is_unknown place_of customer_in with_customer with_seed clock_value total offset_in width_in field_text layout
    layout_length hex_fields format_holds one_of methods is_exact length_rules common_rules own_rules obeys is_short format_fails value_fails each_field
    form_checks receiver_of sender_of stamp_text_of stamp_of date_of_stamp version_of transport_generation_of working_generation_of checksum_field_of
    request_of first_failing checksum_differs too_old_version party_checks stamp_checks room_checks esi_key_checks esi_checks grant_to record_after
    table_after outcome_of is_sound esi_outcome esi_table table_by code_in occasion after_esi esi_ends esi_goes_on esi_starts first_record record_in
    replies begins extent_of is_whole wanted_length wants_more known_text collected_as without_cr last_item grown ended_by items_from at_start joined
    tag_of size_of esi_built breaks_rules other_generation building_refusals message_by esi_building lowest stands_after item_step lines
stands = refl

pub may_send_batch : MaySendBatch after.table (dated 10201) 1 desk batch_stamp (made_of maker 0).made
unfolding member same both either fails pick one between letters digit_value decimal_from leap days_in earlier years_before months_before day_number
    banking_among banking_days_after too_old holds_stamp live_of once_used type_allowed place_from is_unknown place_of customer_in customer_at named select box
    substitute_from mixed feistel cipher_by rotated keys_from schedule_of parity_byte parity_bytes ones random made_of
may_send_batch =
    record {
      message =
          record {
            known = refl;
            agreed = refl;
            fresh = refl;
            not_too_old = refl;
            not_ahead = refl;
            room = refl;
            this_bank = refl;
            same_keys = record { transport_generation = refl; transport_key = refl; working_generation = refl; working_key = refl };
          };
      allowed = refl;
      not_used = refl;
    }

pub is_data : IsData letter
unfolding member same both either pick letters without_cr begins
is_data = record { no_lf = refl; no_closing_cr = refl; no_esi = refl; no_suo = refl; no_var = refl }

pub leaves_something : (m : Method) → LeavesSomething m (letter ∷ [])
unfolding both pick letters is_empty stripped kept_of kept
leaves_something Skh = refl
leaves_something Ske = refl

-- ---- what is built is not refused

pub none_refused : ((esi_building desk software stamp 0x30).refusal ≡ 0) × Built desk maker 0 given (letter ∷ []) 0x30
unfolding all member same part both either fails pick one between first_that letters digit_value decimal_from hex_character hex_digits decimal_digits
    field_character internal hex_digit select box substitute_from mixed feistel cipher_by rotated keys_from schedule_of bytes_from block_of blocks_from
    chained mac checksum_of begun fed_byte closed answered alike took_byte took_bytes ended leap days_in real_date real_time parity_byte parity_bytes ones
    random made_of total offset_in width_in field_text layout layout_length first_failing hex_fields format_holds one_of methods is_exact length_rules
    common_rules own_rules obeys is_short format_fails value_fails each_field form_checks method_of is_sound lowest joined known_text tag_of size_of esi_built
    suo_built var_built breaks_rules other_generation building_refusals message_by esi_building suo_made suo_refusal suo_building record_added digest_number
    var_made var_building all_added
none_refused = (refl, record { suo = refl; var = refl })
