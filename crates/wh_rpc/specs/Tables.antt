-- The table of the open calls, and what each step does to it.
use Rattle.std.specs.Prelude.{◌≡◌, ℕ, ◌+◌, ◌-◌, ◌^◌, ◌==◌, ◌||◌, ◌&&◌, Bool, true, false, Option, Some, None, if◌then◌else◌}
use Rattle.std.specs.Ordering.{nat_cmp, is_eq}

-- the next id; whether no call can be opened from now on; whether no poll can; and what waits for the response of each
-- id
pub record Table (T : Type 0) : Type 0 where
  pub next : ℕ
  pub closed : Bool
  pub draining : Bool
  pub waiter : ℕ → Option T

abbrev pub table : {T : Type 0} → ℕ → Bool → Bool → (ℕ → Option T) → Table T
table next closed draining waiter = record { next = next; closed = closed; draining = draining; waiter = waiter }

-- the ids are the same
abbrev pub is_id : ℕ → ℕ → Bool
is_id id other = is_eq (nat_cmp id other)

-- no call was opened, and 1 is the first id
pub record IsFirst {T : Type 0} (t : Table T) : Type 0 where
  pub next : t.next ≡ 1
  pub open_still : t.closed ≡ false
  pub serving : t.draining ≡ false
  pub empty : (id : ℕ) → t.waiter id ≡ None

-- no call is opened: the table is closed, or it is draining and the call is a poll, or the ids are used up
abbrev pub refuses : {T : Type 0} → Bool → Table T → Bool
refuses is_poll t = t.closed || (is_poll && t.draining) || (t.next == 2 ^ 64 - 1)

-- the call gets the next id and waits under it, and the next id grows by one
pub record Opens {T : Type 0} (old new : Table T) (is_poll : Bool) (waiter : T) (id : ℕ) : Type 0 where
  pub open_still : refuses is_poll old ≡ false
  pub numbered : id ≡ old.next
  pub next : new.next ≡ old.next + 1
  pub closed : new.closed ≡ old.closed
  pub draining : new.draining ≡ old.draining
  pub waits : (other : ℕ) → new.waiter other ≡ (if is_id id other then Some waiter else old.waiter other)

-- what waits under the id is found, and nothing waits under it any more
pub record Takes {T : Type 0} (old new : Table T) (id : ℕ) (found : Option T) : Type 0 where
  pub gives : found ≡ old.waiter id
  pub next : new.next ≡ old.next
  pub closed : new.closed ≡ old.closed
  pub draining : new.draining ≡ old.draining
  pub waits : (other : ℕ) → new.waiter other ≡ (if is_id id other then None else old.waiter other)

-- no poll can be opened from now on, and nothing else changes
abbrev pub Drains : {T : Type 0} → Table T → Table T → Type 0
Drains old new = new ≡ record old { draining = true }

-- no call can be opened from now on, and nothing waits
pub record Closes {T : Type 0} (old new : Table T) : Type 0 where
  pub next : new.next ≡ old.next
  pub closed : new.closed ≡ true
  pub draining : new.draining ≡ old.draining
  pub empty : (id : ℕ) → new.waiter id ≡ None
