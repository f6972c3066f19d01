-- What the slots hold, and what keeps each key findable. Assumes nothing.
-- S is the type of stored keys, V that of values, and Q that of what keys stand for.
use Rattle.std.specs.Prelude.{◌≡◌, ℕ, zero, suc, ◌+◌, ◌-◌, ◌%◌, ◌<◌, ◌≤◌, Bool, true, cond, List, [], ◌∷◌, ◌++◌, length, Some, None, Option, is_some, count_by, slice_index_or}
use Rattle.std.specs.Map.{update}
use Rattle.slots.specs.declared.map.Stop.{Stop}
use Rattle.slots.specs.declared.map.Stop.TheVariants.{Hit, Gap, Crowded}

-- a slot: a stored key with its value, or nothing
abbrev pub Entry : Type 0 → Type 0 → Type 0
Entry S V = Option (S × V)

-- how many slots after h the slot i comes, around the end of n slots
abbrev pub distance : ℕ → ℕ → ℕ → ℕ
distance n h i = (n + i - h) % n

module _ {S V : Type 0} where
  -- how many slots are full
  abbrev pub filled : List (Entry S V) → ℕ
  filled es = count_by is_some es

  -- the slot at i
  abbrev pub at : List (Entry S V) → ℕ → Entry S V
  at es i = slice_index_or es i None

  -- each stored key lies within the first n bytes of the text
  abbrev pub Within : (S → ℕ) → ℕ → List (Entry S V) → Type 0
  Within extent n es = (i : ℕ) (s : S) (v : V) → at es i ≡ Some (s, v) → extent s ≤ n

module _ {Q : Type 0} where
  -- the home, among n slots, of a key that stands for q
  abbrev pub home : (Q → ℕ) → ℕ → Q → ℕ
  home digest n q = digest q % n

  -- the slot that lies k slots after that home, around the end
  abbrev pub way : (Q → ℕ) → ℕ → Q → ℕ → ℕ
  way digest n q k = (home digest n q + k) % n

module _ {S Q : Type 0} where
  -- s lies within the text and stands for q over it
  pub record StoredAs (stands : List ℕ → S → Q) (extent : S → ℕ) (text : List ℕ) (q : Q) (s : S) : Type 0 where
    pub within : extent s ≤ length text
    pub stands_for : stands text s ≡ q

module _ {S V Q : Type 0} where
  -- the map that the slots stand for: sense says what a stored key stands for, and alike whether two are the same
  abbrev pub held : (Q → Q → Bool) → (S → Q) → List (Entry S V) → Q → Option V
  held alike sense [] q = None
  held alike sense (None ∷ es) q = held alike sense es q
  held alike sense (Some (s, v) ∷ es) q = cond (alike q (sense s)) (Some v) (held alike sense es q)

  -- a search for q stops at an empty slot and at the key's own
  abbrev pub stops_at : (Q → Q → Bool) → (S → Q) → Q → Entry S V → Bool
  stops_at alike sense q None = true
  stops_at alike sense q (Some (s, v)) = alike q (sense s)

  -- how many slots a search for q looks at: from its home to where it stops, both counted, and all where it never stops
  abbrev pub looks_from : (Q → Q → Bool) → (S → Q) → (Q → ℕ) → List (Entry S V) → Q → ℕ → ℕ → ℕ
  looks_from alike sense digest es q step zero = 0
  looks_from alike sense digest es q step (suc left) =
      cond (stops_at alike sense q (at es (way digest (length es) q step))) 1 (suc (looks_from alike sense digest es q (suc step) left))

  abbrev pub looks : (Q → Q → Bool) → (S → Q) → (Q → ℕ) → List (Entry S V) → Q → ℕ
  looks alike sense digest es q = looks_from alike sense digest es q 0 (length es)

  -- the slot is full, with another key than q
  abbrev pub Other : (S → Q) → Q → Entry S V → Type 0
  Other sense q None = ⊥
  Other sense q (Some (s, v)) = sense s ≡ q → ⊥

  -- no two slots have keys that stand for the same, and no slot is empty on the way from a key's home to its slot
  pub record Sound (sense : S → Q) (digest : Q → ℕ) (es : List (Entry S V)) : Type 0 where
    pub apart : (i j : ℕ) (s t : S) (v w : V) → at es i ≡ Some (s, v) → at es j ≡ Some (t, w) → sense s ≡ sense t → i ≡ j
    pub reached : (i : ℕ) (s : S) (v : V) → at es i ≡ Some (s, v) → (k : ℕ) → k < distance (length es) (home digest (length es) (sense s)) i → is_some (at es (way digest (length es) (sense s) k)) ≡ true

  -- the slots as a map over the text leaves them: each key can be found, and lies within the text
  pub record Kept (stands : List ℕ → S → Q) (digest : Q → ℕ) (extent : S → ℕ) (text : List ℕ) (es : List (Entry S V)) : Type 0 where
    pub sound : Sound (stands text) digest es
    pub within : Within extent (length text) es

  -- the first k slots on the way from q's home hold other keys
  abbrev pub Passed : (S → Q) → (Q → ℕ) → List (Entry S V) → Q → ℕ → Type 0
  Passed sense digest es q k = (j : ℕ) → j < k → Other sense q (at es (way digest (length es) q j))

  -- the slot i is the last of the `looked` slots on the way from q's home, and those before hold other keys
  pub record Ends (sense : S → Q) (digest : Q → ℕ) (es : List (Entry S V)) (q : Q) (looked i : ℕ) : Type 0 where
    pub some : 0 < looked
    pub most : looked ≤ length es
    pub last : i ≡ way digest (length es) q (looked - 1)
    pub inside : i < length es
    pub passed : Passed sense digest es q (looked - 1)

  -- what a search for q tells: the slots that it looked at, and where it stopped
  abbrev pub Told : (Q → Q → Bool) → (S → Q) → (Q → ℕ) → List (Entry S V) → Q → ℕ → Stop V → Type 0
  Told alike sense digest es q looked (Hit i v) = Ends sense digest es q looked i × ((s : S) × (at es i ≡ Some (s, v)) × (sense s ≡ q)) × (held alike sense es q ≡ Some v)
  Told alike sense digest es q looked (Gap i) = Ends sense digest es q looked i × (at es i ≡ None) × (filled es < length es) × (held alike sense es q ≡ None)
  Told alike sense digest es q looked Crowded = (looked ≡ length es) × (filled es ≡ length es) × (held alike sense es q ≡ None)

  -- the slot i is empty, and a search for q stops there
  abbrev pub Free : (S → Q) → (Q → ℕ) → List (Entry S V) → Q → ℕ → Type 0
  Free sense digest es q i = ((looked : ℕ) × Ends sense digest es q looked i) × (at es i ≡ None)

  -- after es, the slots fs hold v under q too, and nothing else has changed
  pub record Added (alike : Q → Q → Bool) (sense : S → Q) (digest : Q → ℕ) (es : List (Entry S V)) (q : Q) (v : V) (fs : List (Entry S V)) : Type 0 where
    pub sound : Sound sense digest fs
    pub holds : (p : Q) → held alike sense fs p ≡ update alike (held alike sense es) q (Some v) p
    pub count : filled fs ≡ filled es + 1
    pub size : length fs ≡ length es

  -- what an insertion of q with v leaves, by where the search stopped
  abbrev pub Inserted : (Q → Q → Bool) → (S → Q) → (Q → ℕ) → List (Entry S V) → Q → V → Stop V → List (Entry S V) → Type 0
  Inserted alike sense digest es q v (Hit i w) fs = fs ≡ es
  Inserted alike sense digest es q v (Gap i) fs = Added alike sense digest es q v fs
  Inserted alike sense digest es q v Crowded fs = fs ≡ es

  -- a text that grows at its end changes nothing of what the slots hold
  pub record Steady (alike : Q → Q → Bool) (stands : List ℕ → S → Q) (digest : Q → ℕ) (extent : S → ℕ) (text more : List ℕ) (es : List (Entry S V)) : Type 0 where
    pub sound : Sound (stands text) digest es → Sound (stands (text ++ more)) digest es
    pub within : Within extent (length (text ++ more)) es
    pub holds : (q : Q) → held alike (stands (text ++ more)) es q ≡ held alike (stands text) es q
    pub free : (q : Q) (i : ℕ) → Free (stands text) digest es q i → Free (stands (text ++ more)) digest es q i
