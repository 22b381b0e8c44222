-- A run over ranges of amounts: the least cost of filling the capacity within them, and of the fillings that have it the first amounts of a group
-- of parts, by keys.
--   Grouped wide f e left g    parts from f on, before e, whose keys can be told apart in costs up to left
--   Gathers wide f left g      what is used of a group
--   in_group f t k              part k is one of f to t - 1
--   keyed_by cap left base c a  the cost c counted in units of base, with a added, at most cap
--   taken_key, left_key          the share of a unit in the key, if it is taken and if it is left
--   keyed_taken, keyed_left      the costs of a unit of part k, taken or left, with that share
--   fixed_low, fixed_wide        the ranges with the amounts of a group fixed at digits: from below, or from above where the amount falls
--   Fixable r ds               the digits ds are within the ranges r
--   Fixes p f t d r r'         the ranges r' are those
--   less_by b x y               x comes before y: it is less, or more where the amount falls
--   Earlier p n y z            y comes before z in the first n parts: by the first one that differs
--   Fills p C y                y fills C
--   Filling p r C c            a filling within r at the cost c
--   run_cells                   the most cells that a run writes
--   Begins p r C cap ..        what a run by keys asks
--   LeastKeyed p r .. free c   the least cost with keys, where part `free` absorbs the others, or is none
--   Decodes p r f g key r'     the ranges r' have the group fixed at the digits of the key
--   Runs p r C cap f n         what a run from part f on finds
--   ScalesWrite p r K f n      the scales write n cells for the parts within r and the capacity K, whatever a unit costs: by the first part after f that
--                              absorbs the others, if one does
--   RunWrites p r C cap f n    a run over r from part f on writes n cells: those of the scales within the narrowed ranges, or none where nothing is left
--                              to look for
--   Whole p r                  the ranges of all amounts
use Rattle.std.specs.Prelude.{◌≡◌, Bool, true, false, cond, List, ◌⊎◌, ℕ, suc, ◌+◌, ◌-◌, ◌*◌, ◌^◌, ◌≤◌, ◌<◌, min, ltb, length}
use Rattle.scales.specs.declared.Cost.{Cost}
use Rattle.scales.specs.Filling.{load, cost, items_of, Least}
use Rattle.residues.specs.Asked.{Chosen, TakesBy}
use Rattle.fillings.specs.declared.Parts.{Parts}
use Rattle.fillings.specs.declared.Ranges.{Ranges}
use Rattle.fillings.specs.declared.Group.{Group}
use Rattle.fillings.specs.declared.Run.{Run}
use Rattle.fillings.specs.Keys.{keys, digits, radix}
use Rattle.fillings.specs.Ranges.{num, flag, items_in, Inside, Among, offset_of, boxed, Made, Narrows, Fair}

pub record Grouped (wide : List ℕ) (f e left : ℕ) (g : Group) : Type 0 where
  pub from : f ≤ g.to
  pub end : f ≤ e → g.to ≤ e
  pub base-is : g.base ≡ keys (num wide) f (g.to - f)
  pub small : left * g.base < 2 ^ 63
  pub some : f < e → left * suc (num wide f) < 2 ^ 63 → f < g.to

-- what is used of a group
pub record Gathers (wide : List ℕ) (f left : ℕ) (g : Group) : Type 0 where
  pub some : 1 ≤ left
  pub from : f ≤ g.to
  pub end : g.to ≤ 17
  pub base-is : g.base ≡ keys (num wide) f (g.to - f)
  pub small : left * g.base < 2 ^ 63

abbrev pub in_group : ℕ → ℕ → ℕ → Bool
in_group f t k = cond (ltb k f) false (ltb k t)

abbrev pub keyed_by : ℕ → ℕ → ℕ → ℕ → ℕ → ℕ
keyed_by cap left base c a = min cap (min left c * base + a)

abbrev pub taken_key : Bool → ℕ → ℕ
taken_key falls a = cond falls 0 a

abbrev pub left_key : Bool → ℕ → ℕ
left_key falls a = cond falls a 0

abbrev pub keyed_taken : Parts → ℕ → ℕ → ℕ → List ℕ → ℕ → ℕ
keyed_taken p cap left base ks k = keyed_by cap left base (num p.taken k) (taken_key (flag p.falls k) (num ks k))

abbrev pub keyed_left : Parts → ℕ → ℕ → ℕ → List ℕ → ℕ → ℕ
keyed_left p cap left base ks k = keyed_by cap left base (num p.left k) (left_key (flag p.falls k) (num ks k))

abbrev pub fixed_low : Parts → Ranges → ℕ → ℕ → List ℕ → ℕ → ℕ
fixed_low p r f t ds k = cond (in_group f t k) (num r.low k + cond (flag p.falls k) (num r.wide k - num ds k) (num ds k)) (num r.low k)

abbrev pub fixed_wide : Ranges → ℕ → ℕ → ℕ → ℕ
fixed_wide r f t k = cond (in_group f t k) 0 (num r.wide k)

-- digits within the ranges, amounts that fit
abbrev pub Fixable : Ranges → List ℕ → Type 0
Fixable r ds = (k : ℕ) → k < 17 → (num r.low k + num r.wide k < 2 ^ 64) × (num ds k ≤ num r.wide k)

pub record Fixes (p : Parts) (f t : ℕ) (ds : List ℕ) (r r' : Ranges) : Type 0 where
  pub lows : Made 17 (fixed_low p r f t ds) r'.low
  pub wides : Made 17 (fixed_wide r f t) r'.wide

abbrev pub less_by : Bool → ℕ → ℕ → Type 0
less_by true x y = y < x
less_by false x y = x < y

pub record Earlier (p : Parts) (n : ℕ) (y z : ℕ → ℕ) : Type 0 where
  pub place : ℕ
  pub below : place < n
  pub same : (j : ℕ) → j < place → y j ≡ z j
  pub less : less_by (flag p.falls place) (y place) (z place)

abbrev pub Fills : Parts → ℕ → (ℕ → ℕ) → Type 0
Fills p C y = load (items_in p) y ≡ C

-- a filling within the ranges r at the cost c
pub record Filling (p : Parts) (r : Ranges) (C c : ℕ) : Type 0 where
  pub amounts : ℕ → ℕ
  pub inside : Inside r amounts
  pub fills : Fills p C amounts
  pub costs : cost (items_in p) amounts ≡ c

-- the most cells that a run writes
abbrev pub run_cells : ℕ
run_cells = 99367785

-- what a run by keys asks: ranges whose offset leaves `left` of the cap, and a room that the least amounts leave
pub record Begins (p : Parts) (r : Ranges) (C cap f left room : ℕ) : Type 0 where
  pub fair : Fair p
  pub among : Among p r
  pub wide-long : length r.wide ≡ 17
  pub start : f ≤ 16
  pub cap-in : cap < 2 ^ 63
  pub left_is : left ≡ cap - offset_of p r
  pub left≥1 : 1 ≤ left
  pub room-is : load (items_in p) (num r.low) + room ≡ C

-- the least cost with keys, of the parts as four lists show them
pub record LeastKeyed (p : Parts) (r : Ranges) (f left room : ℕ) (g : Group) (free : ℕ) (c : Cost) : Type 0 where
  pub few : c.written ≤ run_cells
  pub rad : List ℕ
  pub ts : List ℕ
  pub ls : List ℕ
  pub rads : Made 17 (radix (num r.wide) f g.to) rad
  pub takens : Made 17 (keyed_taken p (left * g.base) left g.base rad) ts
  pub lefts : Made 17 (keyed_left p (left * g.base) left g.base rad) ls
  pub least : Least (left * g.base) (items_of p.weight r.wide ts ls) room c.least
  pub takes : TakesBy (left * g.base) (items_of p.weight r.wide ts ls) room free c.written

-- the ranges with a group fixed at the digits of a key
pub record Decodes (p : Parts) (r : Ranges) (f : ℕ) (g : Group) (key : ℕ) (r' : Ranges) : Type 0 where
  pub ds : List ℕ
  pub read : Made 17 (digits (num r.wide) f (g.to - f) key) ds
  pub fixes : Fixes p f g.to ds r r'

pub record Runs (p : Parts) (r : Ranges) (C cap f : ℕ) (n : Run) : Type 0 where
  pub few : n.written ≤ run_cells
  pub capped : n.cost ≤ cap
  pub bounds : (y : ℕ → ℕ) → Inside r y → Fills p C y → n.cost ≤ cost (items_in p) y
  pub reached : n.cost < cap → Filling p n.ranges C n.cost
  pub among : n.cost < cap → (y : ℕ → ℕ) → Inside n.ranges y → Inside r y
  pub fixed : n.cost < cap → (j : ℕ) → f ≤ j → j < n.to → num n.ranges.wide j ≡ 0
  pub first : n.cost < cap → (y : ℕ → ℕ) → Inside r y → Fills p C y → cost (items_in p) y ≡ n.cost
      → Inside n.ranges y ⊎ ((a : ℕ → ℕ) → Inside n.ranges a → ((j : ℕ) → j < f → a j ≡ y j) → Earlier p n.to a y)
  pub end : (f ≤ n.to) × (f ≤ 16 → n.to ≤ 16)
  pub some : n.cost < cap → f < 16 → cap * suc (num r.wide f) < 2 ^ 63 → f < n.to

-- ---- what is written

-- the costs of a unit, taken or left, change which cells hold what, not how many there are
pub record ScalesWrite (p : Parts) (r : Ranges) (K f n : ℕ) : Type 0 where
  pub free : ℕ
  pub chosen : Chosen (boxed p r) (f + 1) K free
  pub top : ℕ
  pub ts : List ℕ
  pub ls : List ℕ
  pub takes : TakesBy top (items_of p.weight r.wide ts ls) K free n

pub data RunWrites (p : Parts) (r : Ranges) (C cap f : ℕ) : ℕ → Type 0 where
  costly : cap ≤ offset_of p r → RunWrites p r C cap f 0
  heavy : (r' : Ranges) → offset_of p r < cap → Narrows p (cap - offset_of p r) r r' → C < load (items_in p) (num r'.low) → RunWrites p r C cap f 0
  scaled : (r' : Ranges) (K n : ℕ) → offset_of p r < cap → Narrows p (cap - offset_of p r) r r' → load (items_in p) (num r'.low) + K ≡ C →
      ScalesWrite p r' K f n → RunWrites p r C cap f n

-- all amounts
pub record Whole (p : Parts) (r : Ranges) : Type 0 where
  pub none : (j : ℕ) → num r.low j ≡ 0
  pub all : r.wide ≡ p.range
