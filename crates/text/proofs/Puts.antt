-- Texts that are put one after the other are one text, in one room; and two results that one put allows agree.
-- Assumes nothing.
use mathlib.Core.Option as maybe
use Rattle.std.specs.Borrow.{GName}
use lib.Seq.{drop-append_seam}
use Rattle.std.proofs.Common.{refl, ap, ap₂, sym, ◌≡◌, ◌∙◌, ◌+◌, ◌-◌, ◌≤◌, List, [], ◌++◌, append_assoc, append-nil, length, drop, length-append, drop-drop, arith, ℕ}
use Rattle.text.specs.Text.{Held, put, left, room_of, PutsAgree, HeldAgree, PutsAtAgree}

pub put_put : (first second : List ℕ) (held : Held) → put second (put first held) ≡ put (first ++ second) held
unfolding put
put_put first second held =
    ap₂ (λ (text behind : List ℕ). record held { text = text; behind = behind }) (append_assoc held.text first second)
    (drop-drop (length second) (length first) held.behind ∙ ap (λ (k : ℕ). drop k held.behind) (sym (length-append first second)))

pub put_none : (held : Held) → put [] held ≡ held
unfolding put
put_none held = ap (λ (text : List ℕ). record held { text = text }) (append-nil held.text)

pub text_put : (s : List ℕ) (held : Held) → (put s held).text ≡ held.text ++ s
unfolding put
text_put s held = refl

pub longer_put : (s : List ℕ) (held after : Held) → after ≡ put s held → length after.text ≡ length held.text + length s
longer_put s held after is = ap (λ (h : Held). length h.text) is ∙ ap (λ (l : List ℕ). length l) (text_put s held) ∙ length-append held.text s

pub left_put : (s : List ℕ) (held : Held) → length s ≤ left held → left (put s held) + length s ≡ left held
unfolding put left
left_put s held fits = omega (arith, fits, length-append held.text s)

pub room_put : (s : List ℕ) (held : Held) → room_of (put s held) ≡ room_of held
unfolding put room_of
room_put s held = refl

pub and_then : (before first second : List ℕ) {middle after : List ℕ} → middle ≡ before ++ first → after ≡ middle ++ second
    → after ≡ before ++ (first ++ second)
and_then before first second p q =
    q ∙ ap (λ (l : List ℕ). l ++ second) p ∙ append_assoc before first second

pub held_and_then : (before : Held) (first second : List ℕ) {middle after : Held} → middle ≡ put first before → after ≡ put second middle
    → after ≡ put (first ++ second) before
held_and_then before first second p q = q ∙ ap (put second) p ∙ put_put first second before

pub puts_agree : PutsAgree
puts_agree before text after after' one other = one ∙ sym other

pub held_agree : HeldAgree
held_agree before text after after' one other = one ∙ sym other

pub puts_at_agree : PutsAtAgree
puts_at_agree before at text after after' next next' one other = (one.bytes ∙ sym other.bytes, one.place ∙ sym other.place)

-- what has room in a room that stays the same, by its text
pub left_by_text : (now was : Held) → room_of now ≡ room_of was → left now ≡ was.size - length now.text
unfolding left room_of
left_by_text now was same = ap (λ (room : ℕ × maybe.Option GName). room.0 - length now.text) same

pub same_size : (now was : Held) → room_of now ≡ room_of was → now.size ≡ was.size
unfolding room_of
same_size now was same = ap (λ (room : ℕ × maybe.Option GName). room.0) same

-- Some text was put, one after the other.
pub record Grown (before after : Held) : Type 0 where
  pub text : List ℕ
  pub same : after ≡ put text before

pub grown_first : (held : Held) → Grown held held
grown_first held = record { text = []; same = sym (put_none held) }

pub grown_on : (before middle after : Held) (text : List ℕ) → Grown before middle → after ≡ put text middle → Grown before after
grown_on before middle after text grown more = record {
  text = grown.text ++ text;
  same = held_and_then before grown.text text grown.same more;
}

-- which text was put, the room tells that holds it
pub put_by : (before after : Held) (one text : List ℕ) → after ≡ put one before → after.text ≡ before.text ++ text → after ≡ put text before
put_by before after one text same is =
    let put_then = ap (λ (held : Held). held.text) same ∙ text_put one before in
    let they : one ≡ text =
    sym (drop-append_seam before.text one) ∙ ap (drop (length before.text)) (sym put_then ∙ is) ∙ drop-append_seam before.text text in
    same ∙ ap (λ (l : List ℕ). put l before) they

-- none, where it holds the same
pub put_none_by : (held : Held) (text : List ℕ) → held.text ≡ held.text ++ text → held ≡ put text held
put_none_by held text is = put_by held held [] text (sym (put_none held)) is

pub grown_by : (before after : Held) (text : List ℕ) → Grown before after → after.text ≡ before.text ++ text → after ≡ put text before
grown_by before after text grown is = put_by before after grown.text text grown.same is

-- the text that a room holds once more was put
pub text_after : (before after : Held) (text : List ℕ) → after ≡ put text before → after.text ≡ before.text ++ text
text_after before after text same = ap (λ (held : Held). held.text) same ∙ text_put text before
