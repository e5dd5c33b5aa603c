-- What is written reads back as the same fields on that link, and what is read there is written back as the same bytes.
-- Assumes nothing.
use Prim.Native.Nat.{ℕ, ◌+◌, ◌-◌, ◌^◌, ◌≤◌, ◌<◌}
use mathlib.Core.Path.{◌≡◌, refl, sym, ap, ap₂, ◌∙◌}
use mathlib.Core.Bool.{Bool, true, false}
use mathlib.Core.List.{List, [], ◌∷◌, ◌++◌, append_assoc}
use native.Mathlib.Omega.{arith}
use lib.Dec.{lit<}
use lib.ListN.{length, take, drop, length-append, length-drop}
use lib.Seq.{take_at, drop_at, take-add, drop-drop, length-take-le}
use Rattle.field.specs.Field.{bytes_of}
use Rattle.field.specs.Row.{fields_of, row_of, FitsRow, Bytes}
use Rattle.field.proofs.Row.{fields_of_row, row_of_fields}
use Rattle.packet.specs.Sizes.{length_size, packet_header_size, least_length, most_user_data, checked_bytes, checked_fields}
use Rattle.packet.specs.Check.{check_of}
use Rattle.packet.specs.Packet.{packet_widths, packet_header_from, packet_header_at, check_at, user_data_at, flag_of, PacketOn}
use Rattle.packet.specs.declared.Header.{Header}
use Rattle.packet_writing.specs.Writing.{checked_row, checked_of, check_for, packet_bytes}
use Rattle.round_trips.specs.Packet.{ReadsBack, WrittenReadsBack, ReadWritesBack}
use Rattle.packet.proofs.Register.{check_fits}
use Rattle.packet_writing.proofs.Bytes.{checked_length, row_split, row_length}
use Rattle.packet_writing.proofs.Answers.{short_enough}

flag_fits : (normal : Bool) → flag_of normal < 256 ^ 1
flag_fits true = lit< tt
flag_fits false = lit< tt

-- ---- a packet in the midst of a link's bytes
module _ (normal : Bool) (version application number kind : ℕ) (user_data before after : List ℕ)
    (version_fits : version < 2 ^ 8) (application_fits : application < 2 ^ 8) (number_fits : number < 2 ^ 16) (kind_fits : kind < 2 ^ 8)
    (short : length user_data ≤ most_user_data) where
  abbrev counted : ℕ
  counted = least_length + length user_data

  abbrev fields : List ℕ
  fields = checked_of normal version application number kind user_data

  abbrev values : List ℕ
  values = fields ++ (check_for fields ∷ [])

  abbrev s : List ℕ
  s = before ++ (packet_bytes normal version application number kind user_data ++ after)

  abbrev at : ℕ
  at = length before

  fits : FitsRow packet_widths values
  fits = (omega arith, (version_fits, (application_fits, (number_fits, (flag_fits normal, (kind_fits, (check_fits (row_of (take checked_fields packet_widths) fields), tt)))))))

  parts : packet_bytes normal version application number kind user_data ++ after ≡ row_of packet_widths values ++ (user_data ++ after)
  parts = append_assoc (row_of packet_widths values) user_data after

  header : packet_header_at s at ≡ packet_header_from values
  header =
      ap packet_header_from
      (ap (λ (l : List ℕ). fields_of packet_widths (before ++ l) at) parts ∙ fields_of_row packet_widths values before (user_data ++ after) at refl fits)

  from_here : drop at s ≡ row_of packet_widths values ++ (user_data ++ after)
  from_here = drop_at before (packet_bytes normal version application number kind user_data ++ after) at refl ∙ parts

  right_check : check_at s at ≡ check_for fields
  right_check =
      ap (λ (l : List ℕ). check_of (take checked_bytes l))
      (from_here ∙ row_split counted version application number (flag_of normal) kind (check_for fields) (user_data ++ after))
      ∙ ap check_of
      (take_at
      (checked_row counted version application number (flag_of normal) kind)
      (bytes_of 2 (check_for fields) ++ (user_data ++ after))
      checked_bytes
      (checked_length counted version application number (flag_of normal) kind))

  ten : length (row_of packet_widths values) ≡ packet_header_size
  ten = row_length counted version application number (flag_of normal) kind (check_for fields)

  past_header : drop (at + packet_header_size) s ≡ user_data ++ after
  past_header =
      sym (drop-drop packet_header_size at s) ∙ ap (drop packet_header_size) from_here ∙ drop_at (row_of packet_widths values) (user_data ++ after) packet_header_size ten

  its_length : (packet_header_at s at).length ≡ counted
  its_length = ap (λ (h : Header). h.length) header

  its_data : user_data_at s at ≡ user_data
  its_data =
      ap₂ (λ (n : ℕ) (l : List ℕ). take n l) (ap (λ (n : ℕ). n - least_length) its_length ∙ less (length user_data)) past_header
      ∙ take_at user_data after (length user_data) refl
    where
      less : (n : ℕ) → least_length + n - least_length ≡ n
      less n = omega arith

  all_there : at + ((packet_header_at s at).length + length_size) ≤ length s
  all_there =
      let whole : length s ≡ at + length (packet_bytes normal version application number kind user_data ++ after) = length-append before (packet_bytes normal version application number kind user_data ++ after) in
      let rest : length (packet_bytes normal version application number kind user_data ++ after) ≡ length (row_of packet_widths values) + (length user_data + length after) = ap length parts ∙ length-append (row_of packet_widths values) (user_data ++ after) ∙ ap (λ (n : ℕ). length (row_of packet_widths values) + n) (length-append user_data after) in
      omega (arith, ten, its_length)

  reads_back : ReadsBack normal version application number kind user_data s at
  reads_back = record {
    stands = record {
      whole = all_there;
      least = omega (arith, its_length);
      most = omega (arith, its_length);
      right = ap (λ (h : Header). h.check) header ∙ sym right_check;
      flagged = ap (λ (h : Header). h.flag) header;
    };
    same_version = ap (λ (h : Header). h.version) header;
    same_application = ap (λ (h : Header). h.application) header;
    same_number = ap (λ (h : Header). h.number) header;
    same_kind = ap (λ (h : Header). h.kind) header;
    length_of_data = its_length;
    same_data = its_data;
  }

pub written_reads_back : WrittenReadsBack
written_reads_back room normal version application number kind user_data before after v a n k z =
    reads_back normal version application number kind user_data before after v a n k (short_enough room number kind user_data z)

-- ---- a packet of the link, written back
module _ (normal : Bool) (s : List ℕ) (at : ℕ) (bytes : Bytes s) (stands : PacketOn normal s at) where
  abbrev h : Header
  h = packet_header_at s at

  abbrev again : List ℕ
  again = checked_of normal h.version h.application h.number h.kind (user_data_at s at)

  data_length : least_length + length (user_data_at s at) ≡ h.length
  data_length =
      let left : length (drop (at + packet_header_size) s) ≡ length s - (at + packet_header_size) = length-drop (at + packet_header_size) s in
      omega (arith, length-take-le (h.length - least_length) (drop (at + packet_header_size) s) (omega (arith, stands.whole, stands.least)), stands.least)

  same_fields : again ≡ take checked_fields (fields_of packet_widths s at)
  same_fields =
      ap₂ (λ (n f : ℕ). n ∷ h.version ∷ h.application ∷ h.number ∷ f ∷ h.kind ∷ []) data_length (sym stands.flagged)

  same_check : check_for again ≡ h.check
  same_check =
      ap check_for same_fields
      ∙ ap check_of (row_of_fields (take checked_fields packet_widths) s at bytes (omega (arith, stands.whole, stands.least)))
      ∙ sym stands.right

  same_row : row_of packet_widths (again ++ (check_for again ∷ [])) ≡ take packet_header_size (drop at s)
  same_row =
      ap₂ (λ (l : List ℕ) (c : ℕ). row_of packet_widths (l ++ (c ∷ []))) same_fields same_check
      ∙ row_of_fields packet_widths s at bytes (omega (arith, stands.whole, stands.least))

  writes_back : packet_bytes normal h.version h.application h.number h.kind (user_data_at s at) ≡ take (h.length + length_size) (drop at s)
  writes_back =
      ap₂ (λ (x y : List ℕ). x ++ y) same_row (ap (take (h.length - least_length)) (sym (drop-drop packet_header_size at s)))
      ∙ sym (take-add packet_header_size (h.length - least_length) (drop at s))
      ∙ ap (λ (n : ℕ). take n (drop at s)) (size h.length stands.least)
    where
      size : (n : ℕ) → least_length ≤ n → packet_header_size + (n - least_length) ≡ n + length_size
      size n l = omega arith

pub read_writes_back : ReadWritesBack
read_writes_back normal s at bytes stands = writes_back normal s at bytes stands
