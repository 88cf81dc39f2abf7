-- What is told of each answer that is no refusal: the entries of `told` that it writes, and which of its numbers must fit their 32 bits. What the exported
-- functions promise stands in specs/Replies.antt.
-- Assumes nothing.
use Rattle.std.specs.Prelude.{ℕ, ◌<◌, List, [], ◌∷◌, Option, Some, None, Result, Ok, Err}
use Rattle.refusals.specs.declared.Refusal.{Refusal}
use Rattle.refusals.specs.Numbers.{number_of}
use Rattle.text.specs.declared.Refused.{Refused}
use Rattle.text.specs.Told.{told}
use Rattle.routes.specs.declared.Found.{Found}
use Rattle.routes.specs.declared.LeastRoute.{LeastRoute}
use Rattle.routes.specs.declared.Entry.{Entry}
use Rattle.stress.specs.declared.segment.Grade.{Grade}
use Rattle.splicereel_c.specs.Replies.{Reply, reply, read_reply}

-- More than the greatest number of 32 bits.
abbrev pub span : ℕ
span = 4294967296

-- ---- Read
abbrev pub ReadFits : Result ℕ Refused → Type 0
ReadFits (Err why) = why.line < span
ReadFits (Ok count) = count < span

abbrev pub of_read : Result ℕ Refused → Reply
of_read answer = read_reply (told answer)

-- ---- The other calls: a refusal writes nothing
abbrev pub reply_to : {A : Type 0} → (A → List ℕ) → Result A Refusal → Reply
reply_to entries (Err why) = reply (number_of why) []
reply_to entries (Ok what) = reply 0 (entries what)

-- Each of its numbers is of 32 bits or fewer.
abbrev pub AllFit : {A : Type 0} → A → Type 0
AllFit what = Unit {0}

abbrev pub grade_entries : Grade → List ℕ
grade_entries grade = grade.level ∷ grade.measure ∷ []

abbrev pub level_entries : ℕ → List ℕ
level_entries level = level ∷ []

abbrev pub RouteFits : Option Found → Type 0
RouteFits None = Unit {0}
RouteFits (Some route) = route.count < span

abbrev pub route_entries : Option Found → List ℕ
route_entries None = 0 ∷ []
route_entries (Some route) = 1 ∷ route.count ∷ route.length ∷ route.level ∷ []

abbrev pub LeastFits : Option LeastRoute → Type 0
LeastFits None = Unit {0}
LeastFits (Some least) = (least.route.count < span) × (least.tolerance < span)

abbrev pub least_entries : Option LeastRoute → List ℕ
least_entries None = 0 ∷ []
least_entries (Some least) = 1 ∷ least.route.count ∷ least.route.length ∷ least.route.level ∷ least.tolerance ∷ []

abbrev pub CountFits : ℕ → Type 0
CountFits count = count < span

abbrev pub count_entries : ℕ → List ℕ
count_entries count = count ∷ []

abbrev pub NearestFits : Option Entry → Type 0
NearestFits None = Unit {0}
NearestFits (Some entry) = entry.node < span

abbrev pub nearest_entries : Option Entry → List ℕ
nearest_entries None = 0 ∷ []
nearest_entries (Some entry) = 1 ∷ entry.node ∷ entry.length ∷ []
