-- How a script is cut: a text at its first separator, a line into its words.
-- Assumes nothing.
use Rattle.std.specs.Prelude.{◌≡◌, ℕ, ◌<◌, cond, List, [], ◌∷◌, ◌++◌, length, Some, None, Option, ◌==◌, ◌≢◌, slice_index}
use Rattle.std.specs.Borrow.{Bor}

abbrev pub Absent : ℕ → List ℕ → Type 0
Absent b s = (k : ℕ) → k < length s → slice_index s k ≢ b

-- a text cut at the first byte that is the separator: what stands before it and what stands behind it
abbrev pub CutAt : ℕ → List ℕ → Option (Bor (List ℕ) × Bor (List ℕ)) → Type 0
CutAt separator s None = Absent separator s
CutAt separator s (Some parts) =
    (s ≡ parts.0.now ++ (separator ∷ parts.1.now)) × Absent separator parts.0.now

-- the second of two parts of a text has fewer bytes than the text
abbrev pub RestShorter : List ℕ → Option (Bor (List ℕ) × Bor (List ℕ)) → Type 0
RestShorter s None = Unit {0}
RestShorter s (Some parts) = length parts.1.now < length s

-- a byte put before the first of some lines
abbrev pub onto_first : ℕ → List (List ℕ) → List (List ℕ)
onto_first b [] = (b ∷ []) ∷ []
onto_first b (l ∷ ls) = (b ∷ l) ∷ ls

-- the lines of a text: each ends at a line feed (10), which the last may lack
abbrev pub lines : List ℕ → List (List ℕ)
lines [] = []
lines (b ∷ bs) = cond (b == 10) ([] ∷ lines bs) (onto_first b (lines bs))

-- the first line of a text, and a rest that has the others
abbrev pub FirstLine : List ℕ → Option (Bor (List ℕ) × Bor (List ℕ)) → Type 0
FirstLine s None = lines s ≡ []
FirstLine s (Some found) = lines s ≡ found.0.now ∷ lines found.1.now

-- a byte that goes on with the word behind it, if there is one
abbrev pub joined : ℕ → List ℕ → List (List ℕ) → List (List ℕ)
joined b [] ws = (b ∷ []) ∷ ws
joined b (next ∷ bs) [] = (b ∷ []) ∷ []
joined b (next ∷ bs) (w ∷ ws) = cond (next == 32) ((b ∷ []) ∷ (w ∷ ws)) ((b ∷ w) ∷ ws)

-- the words of a line: what stands between spaces
abbrev pub words : List ℕ → List (List ℕ)
words [] = []
words (b ∷ bs) = cond (b == 32) (words bs) (joined b bs (words bs))

-- the first word of a line, and a rest that has the others
abbrev pub FirstWord : List ℕ → Option (Bor (List ℕ) × Bor (List ℕ)) → Type 0
FirstWord s None = words s ≡ []
FirstWord s (Some found) = words s ≡ found.0.now ∷ words found.1.now

abbrev pub only_of : List (List ℕ) → Option (List ℕ)
only_of [] = None
only_of (w ∷ []) = Some w
only_of (w ∷ (v ∷ ws)) = None

-- what stands behind a prefix
abbrev pub behind_prefix : List ℕ → List ℕ → Option (List ℕ)
behind_prefix [] s = Some s
behind_prefix (p ∷ ps) [] = None
behind_prefix (p ∷ ps) (b ∷ bs) = cond (p == b) (behind_prefix ps bs) None
