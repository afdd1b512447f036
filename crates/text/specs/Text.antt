-- The text of numbers, levels, pages and refusals, byte by byte (R9).
use Rattle.std.specs.Prelude.{cond, ◌||◌, List, [], ◌∷◌, ◌++◌, ℕ, zero, suc, ◌+◌, ◌-◌, ◌*◌, ◌/◌, ◌%◌, ltb, eqb, take}

abbrev pub space : ℕ
space = 32

abbrev pub feed : ℕ
feed = 10

-- the last decimal digit of n
abbrev pub digit_of : ℕ → ℕ
digit_of n = 48 + n % 10

-- n in decimal, without leading zeros; at most k digits are made, which is all of them where n < 10^k
unfoldable pub digits : ℕ → ℕ → List ℕ
digits zero n = []
digits (suc k) n = cond (ltb n 10) (digit_of n ∷ []) (digits k (n / 10) ++ digit_of n ∷ [])

-- the number that decimal digits stand for, behind those that stand for n
abbrev pub value_from : ℕ → List ℕ → ℕ
value_from n [] = n
value_from n (b ∷ bs) = value_from (10 * n + (b - 48)) bs

-- a number and the byte that parts it from what follows
abbrev pub number : ℕ → ℕ → ℕ → List ℕ
number k n after = digits k n ++ after ∷ []

-- numbers of at most k digits from position x on, each with the byte that follows it there, and the next position
unfoldable pub numbers_text : ℕ → (ℕ → ℕ) → (ℕ → ℕ) → ℕ → List ℕ → List ℕ
numbers_text k after next x [] = []
numbers_text k after next x (n ∷ ns) = number k n (after x) ++ numbers_text k after next (next x) ns

-- what follows the level in column x of a row of w levels: a line holds 16 of them, or those that are left
unfoldable pub after_level : ℕ → ℕ → ℕ
after_level w x = cond (eqb (x + 1) w || eqb ((x + 1) % 16) 0) feed space

unfoldable pub next_column : ℕ → ℕ → ℕ
next_column w x = cond (eqb (x + 1) w) 0 (x + 1)

-- levels from column x on, row after row
abbrev pub levels_text : ℕ → ℕ → List ℕ → List ℕ
levels_text w = numbers_text 3 (after_level w) (next_column w)

-- what follows the count of player p: the eight are parted by one space
unfoldable pub after_count : ℕ → ℕ
after_count p = cond (eqb (p + 1) 8) feed space

-- counts from player p on
abbrev pub counts_text : ℕ → List ℕ → List ℕ
counts_text = numbers_text 20 after_count (λ p. p + 1)

-- "refused N at P"
unfoldable pub refusal_text : ℕ → ℕ → List ℕ
refusal_text n place =
    114 ∷ 101 ∷ 102 ∷ 117 ∷ 115 ∷ 101 ∷ 100 ∷ space ∷ [] ++ number 20 n space ++ 97 ∷ 116 ∷ space ∷ [] ++ number 20 place feed

-- "P2", "# touched" and the eight counts, width and height, and "255", each on its line
unfoldable pub head_text : ℕ → ℕ → List ℕ → List ℕ
head_text w h touched =
    80 ∷ 50 ∷ feed ∷ 35 ∷ space ∷ 116 ∷ 111 ∷ 117 ∷ 99 ∷ 104 ∷ 101 ∷ 100 ∷ space ∷ [] ++ counts_text 0 touched
    ++ number 20 w space ++ number 20 h feed ++ 50 ∷ 53 ∷ 53 ∷ feed ∷ []

-- a page of w by h
unfoldable pub page_text : ℕ → ℕ → List ℕ → List ℕ → List ℕ
page_text w h touched page = head_text w h touched ++ levels_text w 0 (take (w * h) page)
