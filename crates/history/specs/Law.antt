-- The law over runs: replicas follow the history machine; who has seen an edit has seen what its author had seen; two that exchange
-- parcels agree.
use Rattle.std.specs.Prelude.{◌≡◌, ℕ, true, ◌⊎◌, List, [], ◌∷◌, ◌++◌, map, length, filter, Option, ◌≢◌}
use Rattle.std.specs.List.{slice_get, AllByRecursion}
use Rattle.causal.specs.declared.dots.Dot.{Dot}
use Rattle.kinds.specs.Kinds.{ValueKind}
use Rattle.causal.specs.Runs.{has}
use Rattle.stores.specs.Items.{Item, has_dot}
use Rattle.stores.specs.Sound.{FewParts}
use Rattle.groups.specs.Groups.{Group, join_codes, joined}
use Rattle.reading.specs.Reading.{dots_of}
use Rattle.groups.specs.Limits.{stands_elsewhere}
use Rattle.calls.specs.Holdings.{Shelf, Replica, Answer, refusal, wrote, arrived, absorbed, accepted, counted, Turn}
use Rattle.calls.specs.Reads.{codes}
use Rattle.history.specs.Sets.{◌∈◌}
use Rattle.history.specs.Worlds.{Number, Setting, Call, edit, ship, ship_whole, deliver, lose, repeat, forget, read, Bytewise, World, traced, called, opened, run}
use Rattle.history.specs.History.{Name, Edit, Edits, names, put_by, Past, Letter, book, letter_bytes, kept_bytes, Machine, told, tells, blank, tale, history}

module _ (z : Setting) where
  -- what is compared: of each set its book, and of what is kept or on the way the written form
  abbrev pub shown : ℕ → Past → Replica
  shown r x = record {
    number = r;
    capacities = z.capacities r;
    book = book z x.seen;
    deltas = record { sizes = z.deltas r; parcels = kept_bytes z r x.forgotten x.kept };
    step = x.step;
    forgotten = x.forgotten;
    heard = x.heard;
  }

  abbrev pub shown_link : ℕ → List Letter → Shelf
  shown_link l ps = record { sizes = z.links l; parcels = map (letter_bytes z) ps }

  abbrev pub image : Machine → World
  image m = record { replicas = λ r. shown r (m.pasts r); links = λ l. shown_link l (m.posts l) }

  abbrev pub compared : Turn Machine → Turn World
  compared t = record { answer = t.answer; after = image t.after; memory = t.memory; work = t.work }

  -- (a) after every call, its answer, lent memory, work store and all replicas and links are what the machine says
  abbrev pub FollowsBy : (Call → World → Turn World) → Type 0
  FollowsBy step = (ks : List Call) → AllByRecursion Bytewise ks → traced step (opened z) ks ≡ map compared (tale z (blank z) ks)

  abbrev pub Follows : Type 0
  Follows = FollowsBy (called z)

  -- what replica q has seen after some calls, and its book
  abbrev pub seen_by : List Call → ℕ → Edits
  seen_by ks q = ((history z (blank z) ks).pasts q).seen

  abbrev pub book_after : List Call → ℕ → Group
  book_after ks q = ((run z (opened z) ks).replicas q).book

-- the codes put at a dot, and the join of some
abbrev pub codes_at : Dot → List Item → List ℕ
codes_at d xs = codes (filter (has_dot d) xs)

abbrev pub all_joined : Option ValueKind → List ℕ → ℕ
all_joined kind [] = 0
all_joined kind (c ∷ []) = c
all_joined kind (c ∷ d ∷ cs) = join_codes kind c (all_joined kind (d ∷ cs))

-- an edit of the set put it there, none struck its dot, and its code is the join of all codes put at that dot
pub record Lives (ks : List ValueKind) (es : Edits) (x : Item) : Type 0 where
  pub put : (e : Edit) × (e ∈ es) × ((y : Item) × (y ∈ e.puts) × (y.part ≡ x.part) × (y.place ≡ x.place) × (y.dot ≡ x.dot))
  pub never_struck : (e : Edit) → e ∈ es → x.dot ∈ e.strikes → ⊥
  pub code_joined : x.code ≡ all_joined (slice_get ks x.part) (codes_at x.dot (put_by es))

-- an edit of the set put or struck the dot
abbrev pub Touched : Edits → Dot → Type 0
Touched es d = (e : Edit) × (e ∈ es) × ((d ∈ dots_of e.puts) ⊎ (d ∈ e.strikes))

abbrev pub Accepted : Answer → Type 0
Accepted (refusal fault) = ⊥
Accepted (wrote n) = Unit {0}
Accepted (arrived way) = Unit {0}
Accepted (absorbed way n) = Unit {0}
Accepted accepted = Unit {0}
Accepted (counted n) = Unit {0}

-- the call is a ship of replica r, of an interval or whole, on the link l
abbrev pub Ships : ℕ → ℕ → Call → Type 0
Ships r l (edit q pen bytes work output) = ⊥
Ships r l (ship q since work output k) = (q.value ≡ r) × (k ≡ l)
Ships r l (ship_whole q output k) = (q.value ≡ r) × (k ≡ l)
Ships r l (deliver q k position memory) = ⊥
Ships r l (lose k position) = ⊥
Ships r l (repeat k position memory) = ⊥
Ships r l (forget q t) = ⊥
Ships r l (read q part place numbers) = ⊥

module _ (z : Setting) where
  -- an entry stands in a book exactly where it lives by the edits seen
  pub record Entries : Type 0 where
    pub stands : (ks : List Call) → AllByRecursion Bytewise ks → (q : ℕ) (x : Item) → x ∈ (book_after z ks q).items → Lives z.kinds (seen_by z ks q) x
    pub lives : (ks : List Call) → AllByRecursion Bytewise ks → (q : ℕ) (x : Item) → Lives z.kinds (seen_by z ks q) x → x ∈ (book_after z ks q).items
    pub known : (ks : List Call) → AllByRecursion Bytewise ks → (q : ℕ) (d : Dot) → has (book_after z ks q).runs d ≡ true → Touched (seen_by z ks q) d
    pub touched : (ks : List Call) → AllByRecursion Bytewise ks → (q : ℕ) (d : Dot) → Touched (seen_by z ks q) d → has (book_after z ks q).runs d ≡ true

  -- (b) who has seen an edit has seen all that its author had seen
  abbrev pub CausalBy : (Call → Machine → Turn Machine) → Type 0
  CausalBy step = (ks : List Call) → AllByRecursion Bytewise ks → (q : ℕ) (e : Edit) (n : Name) →
      let seen = ((told step (blank z) ks).pasts q).seen in e ∈ seen → n ∈ e.past → n ∈ names seen

  abbrev pub Causal : Type 0
  Causal = CausalBy (tells z)

  -- a name is of one edit only
  abbrev pub Named : Type 0
  Named = (ks : List Call) → AllByRecursion Bytewise ks → (q r : ℕ) (e f : Edit) → e ∈ seen_by z ks q → f ∈ seen_by z ks r → e.name ≡ f.name → e ≡ f

  -- a dot is put at one part and place only
  abbrev pub OnePlaced : Type 0
  OnePlaced = (ks : List Call) → AllByRecursion Bytewise ks → (q r : ℕ) (x y : Item) → x ∈ put_by (seen_by z ks q) → y ∈ put_by (seen_by z ks r) → x.dot ≡ y.dot → (x.part ≡ y.part) × (x.place ≡ y.place)

  -- so no parcel is ever turned away because a dot stands elsewhere
  abbrev pub NeverElsewhere : Type 0
  NeverElsewhere = (ks : List Call) → AllByRecursion Bytewise ks → AllByRecursion (λ t. (n : ℕ) → t.answer ≢ refusal (stands_elsewhere n)) (traced (called z) (opened z) ks)

  -- what two replicas have seen, taken together, has the join of their books
  abbrev pub Joins : Type 0
  Joins = (ks : List Call) → AllByRecursion Bytewise ks → (q r : ℕ) → book z (seen_by z ks q ++ seen_by z ks r) ≡ joined z.kinds (book_after z ks q) (book_after z ks r)

  -- a ships, b delivers that parcel, b ships, a delivers that one, all accepted: the two books are equal
  abbrev pub Meeting : World → Type 0
  Meeting w =
      (a b : Number) (l n : ℕ) (first third : Call) (memory memory' : List ℕ) → Ships a.value l first → Ships b.value n third →
      let w₁ = called z first w in
      let w₂ = called z (deliver b l (length (w.links l).parcels) memory) w₁.after in
      let w₃ = called z third w₂.after in
      let w₄ = called z (deliver a n (length (w₂.after.links n).parcels) memory') w₃.after in
      Accepted w₁.answer → Accepted w₂.answer → Accepted w₃.answer → Accepted w₄.answer →
      (w₄.after.replicas a.value).book ≡ (w₄.after.replicas b.value).book

  -- (c)
  abbrev pub Meets : Type 0
  Meets = (ks : List Call) → AllByRecursion Bytewise ks → Meeting (run z (opened z) ks)

  pub record Law : Type 0 where
    pub follows : Follows z
    pub entries : Entries
    pub causal : Causal
    pub meets : Meets
    pub named : Named
    pub one_placed : OnePlaced
    pub never_elsewhere : NeverElsewhere
    pub joins : Joins

-- for all kinds of one to eight parts, any capacities and any shelves
abbrev pub RunsKeepHistory : Type 0
RunsKeepHistory = (z : Setting) → FewParts z.kinds → Law z
