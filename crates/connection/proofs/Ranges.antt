-- Of settings in range, the bounds that proofs use.
-- Assumes nothing.
use Prim.Native.Nat.{ℕ, ◌≤◌}
use mathlib.Core.Path.{◌≡◌}
use mathlib.Core.Bool.{false, ◌||◌}
use borrow.Author.Tests.{ltb-false}
use Rattle.std.proofs.lemmas.Bool.{or_parts}
use lib.Dec.{ltb}
use Rattle.connection.specs.Connection.{◌outside◌to◌, most_n, most_time, most_limit, out_of_range}
use Rattle.connection.specs.declared.Settings.{Settings}

within : (x least most : ℕ) → x outside least to most ≡ false → (least ≤ x) × (x ≤ most)
unfolding ◌outside◌to◌
within x least most e = let a = or_parts (ltb x least) (ltb most x) e in (ltb-false x least a.0, ltb-false most x a.1)

pub record InRange (s : Settings) : Type 0 where
  pub n : 1 ≤ s.n
  pub most_n_lem : s.n ≤ most_n
  pub most_t_max : s.t_max ≤ most_time
  pub most_e : s.e ≤ s.t_max
  pub t_start : s.t_start ≤ most_time
  pub most_t_off : s.t_off ≤ most_time
  pub limit : 1 ≤ s.limit
  pub most_limit_lem : s.limit ≤ most_limit

pub in_range : (s : Settings) → out_of_range s ≡ false → InRange s
unfolding out_of_range
in_range s e =
    let l = or_parts (s.n outside 1 to most_n || s.t_max outside 1 to most_time || s.e outside 0 to s.t_max || s.t_start outside 1 to most_time || s.t_off outside 0 to most_time) (s.limit outside 1 to most_limit) e in
    let o = or_parts (s.n outside 1 to most_n || s.t_max outside 1 to most_time || s.e outside 0 to s.t_max || s.t_start outside 1 to most_time) (s.t_off outside 0 to most_time) l.0 in
    let t = or_parts (s.n outside 1 to most_n || s.t_max outside 1 to most_time || s.e outside 0 to s.t_max) (s.t_start outside 1 to most_time) o.0 in
    let x = or_parts (s.n outside 1 to most_n || s.t_max outside 1 to most_time) (s.e outside 0 to s.t_max) t.0 in
    let m = or_parts (s.n outside 1 to most_n) (s.t_max outside 1 to most_time) x.0 in
    record {
      n = (within s.n 1 most_n m.0).0;
      most_n_lem = (within s.n 1 most_n m.0).1;
      most_t_max = (within s.t_max 1 most_time m.1).1;
      most_e = (within s.e 0 s.t_max x.1).1;
      t_start = (within s.t_start 1 most_time t.1).1;
      most_t_off = (within s.t_off 0 most_time o.1).1;
      limit = (within s.limit 1 most_limit l.1).0;
      most_limit_lem = (within s.limit 1 most_limit l.1).1;
    }
