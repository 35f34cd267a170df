-- The laws of building.
use Rattle.machines.specs.BuildLaws.{BuildLaws}
use Rattle.machines.proofs.Reading.{built-admitted, built-reads}
use Rattle.machines.proofs.OneTable.{alike-table, one_table, one_list}
use Rattle.machines.proofs.Mapping.{mapped-built}
use Rattle.machines.proofs.Counting.{built-spread, built-most, built-fewest}
use Rattle.machines.proofs.Finding.{found}

pub build_laws_lem : (S R : Type 0) → BuildLaws S R
build_laws_lem S R = record {
  admitted = λ m t xs b. built-admitted b;
  reads = λ m t xs b. built-reads b;
  one = λ m t u xs ys b c. (one_table b c, one_list b c);
  alike = λ m k t u xs ys like b c. alike-table like b c;
  mapped = λ m k h t xs f b. mapped-built f b;
  spread = λ m t xs b. built-spread b;
  most = λ m t xs c b. built-most b c;
  fewest = λ m t xs ys b. built-fewest b ys;
  found = found;
}
