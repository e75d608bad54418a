-- Entries with whole-number keys, as a list. Assumes nothing.
use Rattle.std.specs.Prelude.{ℕ, ◌+◌, ◌-◌, ◌<◌, ◌&&◌, List, length, ℤ, ◌<ℤ◌, filter, Option, int_le, int_lt, slice_index_or}
use Rattle.std.specs.List.{slice_get}

abbrev pub first : {E : Type 0} → List E → Option E
first es = slice_get es 0

abbrev pub last : {E : Type 0} → List E → Option E
last es = slice_get es (length es - 1)

-- the keys rise strictly: each is below the next
abbrev pub Rising : {E : Type 0} → (E → ℤ) → List E → Type 0
Rising {E} key es = (i : ℕ) (d : E) → i + 1 < length es → key (slice_index_or es i d) <ℤ key (slice_index_or es (i + 1) d)

-- the entries with a key at or before n, at or after n, and strictly between a and b
abbrev pub through : {E : Type 0} → (E → ℤ) → ℤ → List E → List E
through key n es = filter (λ e. int_le (key e) n) es

abbrev pub onward : {E : Type 0} → (E → ℤ) → ℤ → List E → List E
onward key n es = filter (λ e. int_le n (key e)) es

abbrev pub between : {E : Type 0} → (E → ℤ) → ℤ → ℤ → List E → List E
between key a b es = filter (λ e. int_lt a (key e) && int_lt (key e) b) es
