-- The whole reply that document 01 prints, to the file HELLO: antt computes it.
-- Assumes nothing.
use Rattle.std.specs.Prelude.{None}
use mathlib.Core.Path.{◌≡◌, refl}
use mathlib.Core.Bool.{true, false}
use mathlib.Core.List.{◌++◌}
use lib.ListN.{replicate}
use Rattle.ground.specs.Choice.{both, between, pick}
use Rattle.ground.specs.Lists.{part, overlay}
use Rattle.text.specs.Characters.{blank, padded}
use Rattle.text.specs.Numbers.{decimal_digits}
use Rattle.text.specs.Letters.{letters}
use Rattle.message.specs.Layout.{field, offset_in, width_in, name_in, field_text}
use Rattle.message.specs.Contents.{contents_as, held_in}
use Rattle.notice.specs.Codes.{code_in, field_name, shown_byte, value_text, text_of}
use Rattle.reply.specs.Reply.{clock_text, notice_of, hex_or, checksum_key, enclosed_key, sealed_flag, joined, reply_of}
use Rattle.reply.specs.declared.Answering.{Answering}

-- bank 003701234567, software FRONT 4, 09:15:00, code 1010 on field 1 of the file HELLO
unfoldable pub hello : Answering
hello =
    record {
      pte = false;
      bare = true;
      code = 1010;
      field = field 1;
      contents = contents_as (field_text (field 1) (letters "HELLO"));
      time = 91500;
      bank = padded 25 (letters "003701234567");
      software = padded 16 (letters "FRONT 4");
      message = replicate 161 blank;
      closing = replicate 161 blank;
      working = None;
      transport = None;
      enclosed = None;
    }

pub hello_reply : reply_of hello ≡
    letters ">>ESI237120E1010FRONT 4" ++ replicate 9 blank ++ letters "SMH" ++ replicate 25 blank ++ letters "003701234567"
    ++ replicate 13 blank ++ letters "00000000000000000" ++ replicate 58 blank ++ letters "0" ++ replicate 16 blank
    ++ letters "09:15:00 MUOTOVIRHE KENTÄSSÄ SANOMATUNNUS HELLO" ++ replicate 13 blank
unfolding hello pick both between part overlay padded decimal_digits letters offset_in width_in name_in field_text contents_as held_in code_in
    field_name shown_byte value_text text_of clock_text notice_of hex_or checksum_key enclosed_key sealed_flag joined reply_of
hello_reply = refl
