-- The records that the node of a chain is.
use Rattle.bw_delta.specs.Records.{Records, bare, above, merged}
use Rattle.bw_delta.specs.declared.chain.Node.{Node}
use Rattle.bw_delta.specs.declared.chain.Node.TheVariants.{Bare, Above, Merged}

abbrev pub records : {A : Type 0} → Node A → Records
records (Bare base) = bare base
records (Above delta below) = above delta below.value
records (Merged merging left right) = merged merging left.value right.value
