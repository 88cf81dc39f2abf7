-- Document 02, Note 3, for any street graph whose nodes are the numbers below `nodes`: which of them have a route from a within a tolerance and a greatest
-- length, how far each is, and which marked node is the nearest.
-- Assumes nothing.
use Rattle.std.specs.Prelude.{◌≡◌, Bool, true, not, List, [], ◌∷◌, ◌++◌, ◌⊎◌, ℕ, ◌+◌, ◌*◌, ◌≤◌, ◌<◌, eqb, length, drop}
use Rattle.lists.specs.Lists.{at}
use Rattle.routes.specs.Streets.{Streets}
use Rattle.routes.specs.Routes.{length_of, Within, Shortest, NoRoute}
use Rattle.routes.specs.declared.Entry.{Entry}

-- The least length of a route from a to b within t: that of a shortest one.
pub record LeastLength (g : Streets) (t a b feet : ℕ) : Type 0 where
  pub runs : List ℕ
  pub shortest : Shortest g t a b runs
  pub measured : length_of g runs ≡ feet

-- ---- The map
-- The entry (b, feet) is in the list.
abbrev pub Listed : ℕ → ℕ → List Entry → Type 0
Listed b feet [] = ⊥
Listed b feet (e ∷ es) = ((e.node ≡ b) × (e.length ≡ feet)) ⊎ Listed b feet es

-- The entries' node numbers rise, the first from `low` on, and are below `nodes`.
abbrev pub Rising : ℕ → ℕ → List Entry → Type 0
Rising nodes low [] = low ≤ nodes
Rising nodes low (e ∷ es) = (low ≤ e.node) × Rising nodes (e.node + 1) es

-- Every node that has a route from a within both, the tolerance t and the greatest length, and no other, in rising node number, each with its least length.
pub record ReachMap (g : Streets) (nodes t a greatest : ℕ) (es : List Entry) : Type 0 where
  pub rising : Rising nodes 0 es
  pub every : (b : ℕ) (rs : List ℕ) → b < nodes → Within g t a b rs → length_of g rs ≤ greatest → (feet : ℕ) × Listed b feet es
  pub only : (b feet : ℕ) → Listed b feet es → LeastLength g t a b feet × (feet ≤ greatest)

-- Each entry is two numbers, the node and its least length.
abbrev pub numbers : List Entry → List ℕ
numbers [] = []
numbers (e ∷ es) = e.node ∷ e.length ∷ numbers es

-- The map stands at the front of a lent list, and what stood behind it stays; what is told is the number of its entries.
pub record MapWritten (g : Streets) (nodes t a greatest : ℕ) (before after : List ℕ) (told : ℕ) : Type 0 where
  pub entries : List Entry
  pub map : ReachMap g nodes t a greatest entries
  pub counted : length entries ≡ told
  pub text : after ≡ numbers entries ++ drop (2 * told) before

-- ---- The nearest
-- A node is marked in a list of bytes, one for each node: 0 is no, others yes.
unfoldable pub is_marked : List ℕ → ℕ → Bool
is_marked marks b = not (eqb (at marks b) 0)

-- The nearest of the marked nodes, with its least length; equal lengths go to the lower number.
pub record Nearest (g : Streets) (nodes t a : ℕ) (marks : List ℕ) (e : Entry) : Type 0 where
  pub inside : e.node < nodes
  pub marked : is_marked marks e.node ≡ true
  pub measured : LeastLength g t a e.node e.length
  pub least : (b : ℕ) (rs : List ℕ) → b < nodes → is_marked marks b ≡ true → Within g t a b rs → e.length ≤ length_of g rs
  pub lower : (b : ℕ) (rs : List ℕ) → b < e.node → is_marked marks b ≡ true → Within g t a b rs → e.length < length_of g rs

-- No marked node has a route within the tolerance.
abbrev pub NoneMarked : Streets → ℕ → ℕ → ℕ → List ℕ → Type 0
NoneMarked g nodes t a marks = (b : ℕ) → b < nodes → is_marked marks b ≡ true → NoRoute g t a b
