-- A winner tree (tournament tree): a queue that holds at most one key for each of the entries 0 .. n - 1, and finds the least.
-- Assumes nothing.
use Rattle.std.specs.Prelude.{ℕ, ◌+◌, ◌*◌, ◌-◌, ◌≤◌, ◌<◌, max, ◌≡◌, List, length}
use Rattle.lists.specs.Lists.{at}

-- The number that stands for "no key", above every key: 4294967295 * 65536.
abbrev pub top : ℕ
top = 281474976645120

-- An element of the tree, a node or a leaf, tells how far a key lies below `top`, 0 for no key. The key of an entry is the one that its leaf tells.
abbrev pub key_of : List ℕ → ℕ → ℕ → ℕ
key_of tree n entry = top - at tree (n + entry)

-- The tree of n entries: leaves n .. 2n - 1, nodes 1 .. n - 1, and the root 1.
pub record Queue (tree : List ℕ) (n : ℕ) : Type 0 where
  pub root : 2 ≤ length tree
  pub long : n + n ≤ length tree
  pub bounded : (entry : ℕ) → entry < n → at tree (n + entry) ≤ top
  -- a node is the greater of its two children
  pub node : (i : ℕ) → 1 ≤ i → i < n → at tree i ≡ max (at tree (2 * i)) (at tree (2 * i + 1))
  -- without entries the root tells no key
  pub none : n ≡ 0 → at tree 1 ≡ 0

-- No entry has a key.
pub record Empty (tree : List ℕ) (n : ℕ) : Type 0 where
  pub queue : Queue tree n
  pub all : (entry : ℕ) → entry < n → key_of tree n entry ≡ top

-- The entry has this key afterwards, and every other entry the key that it had.
pub record Put (before after : List ℕ) (n entry key : ℕ) : Type 0 where
  pub queue : Queue after n
  pub here : key_of after n entry ≡ key
  pub others : (q : ℕ) → q < n → (q ≡ entry → ⊥) → key_of after n q ≡ key_of before n q

-- m is the least key, and some entry's; or no entry has a key, and it is `top`.
pub record Front (tree : List ℕ) (n m : ℕ) : Type 0 where
  pub bounded : m ≤ top
  pub least : (q : ℕ) → q < n → m ≤ key_of tree n q
  pub whose : m < top → (entry : ℕ) × (entry < n) × (key_of tree n entry ≡ m)
