-- The setting of a search: one whose columns are put into the order of filling that gives the first of the relaxed optima (foremost, Tied).
--   with_cols s c       the setting s with the columns c
--   ReadyTied s        the setting is in order but for its columns, which are those of one in order, tied
--   ReadySearch s p    so it is, and the pairs are true
use Rattle.foremost.specs.Order.{TiedOf}
use Rattle.greedy.specs.declared.Columns.{Columns}
use Rattle.setting.specs.declared.Setting.{Setting}
use Rattle.setting.specs.declared.Pairs.{Pairs}
use Rattle.setting.specs.Ready.{ReadySetting, ReadyPairs}

abbrev pub with_cols : Setting → Columns → Setting
with_cols s c = record { cols = c; ends = s.ends; level = s.level; low = s.low; high = s.high; lattice = s.lattice; levels = s.levels }

pub record ReadyTied (s : Setting) : Type 0 where
  pub plain : Columns
  pub ready : ReadySetting (with_cols s plain)
  pub order : TiedOf plain s.cols

pub record ReadySearch (s : Setting) (p : Pairs) : Type 0 where
  pub setting : ReadyTied s
  pub true-pairs : ReadyPairs s.cols p
