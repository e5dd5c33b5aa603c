-- What the bytes of an accepted message are.
-- Assumes nothing.
use Prim.Native.Nat.{ℕ, ◌-◌}
use mathlib.Core.Path.{◌≡◌, refl, ap, ◌∙◌, sym}
use mathlib.Core.Bool.{Bool, true, false, not}
use mathlib.Core.List.{List}
use native.Mathlib.Omega.{arith}
use lib.ListN.{length}
use Rattle.rules.specs.Rows.{when◌answer◌else◌}
use Rattle.message.specs.Table.{application, header_size, table_of, lists}
use Rattle.message.specs.Layout.{data_tail, whole}
use Rattle.message.specs.Read.{message_header_of, tail_of, later_stamp, check_over, whole_of, parsed_of}
use Rattle.message.specs.declared.Header.{Header}
use Rattle.message.specs.declared.Tail.{Tail}
use Rattle.message.specs.declared.Message.{Message}
use Rattle.std.proofs.Common.{Option, Some, None}

pub record Accepted (s : List ℕ) (h : Header) (t : Tail) : Type 0 where
  pub header : message_header_of s ≡ h
  pub total_listed : lists (table_of (message_header_of s).kind) (length s) ≡ true
  pub tail : tail_of (table_of (message_header_of s).kind).after s ≡ Some t
  pub stamps : later_stamp (message_header_of s) ≡ false
  pub check : check_over t.check ≡ false

never : {A : Type 0} (h : Header) (t : Tail) → None ≡ Some (whole h t) → A
never h t e = let z : ◌≡◌ {A = ℕ} 0 1 = cc in let n : ⊥ = omega arith in absurd n

same_header : (g h : Header) (t u : Tail) → Some (whole g u) ≡ Some (whole h t) → g ≡ h
same_header g h t u e = let same : whole g u ≡ whole h t = cc in ap (λ (m : Message). m.header) same

same_tail : (g h : Header) (t u : Tail) → Some (whole g u) ≡ Some (whole h t) → u ≡ t
same_tail g h t u e = let same : whole g u ≡ whole h t = cc in ap (λ (m : Message). m.tail) same

pub accepted : (s : List ℕ) (h : Header) (t : Tail) → parsed_of s ≡ Some (whole h t) → Accepted s h t
unfolding parsed_of whole_of
accepted s h t e = listed (lists (table_of (message_header_of s).kind) (length s)) refl e
  where
    judged : (u : Tail) → lists (table_of (message_header_of s).kind) (length s) ≡ true → tail_of (table_of (message_header_of s).kind).after s ≡ Some u
        → (b k : Bool) → later_stamp (message_header_of s) ≡ b → check_over u.check ≡ k
        → (when b answer None else when k answer None else Some (whole (message_header_of s) u)) ≡ Some (whole h t) → Accepted s h t
    judged u l r true k p q e = never h t e
    judged u l r false true p q e = never h t e
    judged u l r false false p q e =
        let same : u ≡ t = same_tail (message_header_of s) h t u e in
        record {
          header = same_header (message_header_of s) h t u e;
          total_listed = l;
          tail = r ∙ ap Some same;
          stamps = p;
          check = sym (ap (λ (v : Tail). check_over v.check) same) ∙ q;
        }

    read : lists (table_of (message_header_of s).kind) (length s) ≡ true
        → (r : Option Tail) → tail_of (table_of (message_header_of s).kind).after s ≡ r → whole_of (message_header_of s) r ≡ Some (whole h t) → Accepted s h t
    read l None r e = never h t e
    read l (Some u) r e = judged u l r (later_stamp (message_header_of s)) (check_over u.check) refl refl e

    listed : (l : Bool) → lists (table_of (message_header_of s).kind) (length s) ≡ l
        → (when not l answer None else whole_of (message_header_of s) (tail_of (table_of (message_header_of s).kind).after s)) ≡ Some (whole h t) → Accepted s h t
    listed false l e = never h t e
    listed true l e = read l (tail_of (table_of (message_header_of s).kind).after s) refl e

-- of an accepted message with application data, the data are all bytes behind the header
pub accepted_data : (s : List ℕ) (h : Header) (t : Tail) → parsed_of s ≡ Some (whole h t) → h.kind ≡ application → t.«data» ≡ length s - header_size
unfolding table_of
accepted_data s h t e k =
    let a = accepted s h t e in
    let g : (message_header_of s).kind ≡ application = ap (λ (x : Header). x.kind) a.header ∙ k in
    let b : Some (data_tail (length s - header_size)) ≡ Some t = rw g at a.tail in
    let c : data_tail (length s - header_size) ≡ t = cc in
    sym (ap (λ (x : Tail). x.«data») c)
