use Rattle.std.specs.Prelude.{Option, None, Some, string_bytes}
use Rattle.edge_io.specs.declared.tree.TreeFail.{TreeFail}
use Rattle.edge_io.specs.declared.tree.TreeFail.TheVariants as tree
use Rattle.edge_io.specs.declared.files.LoadFault.{LoadFault}
use Rattle.edge_io.specs.declared.files.LoadFault.TheVariants as load
use Rattle.edge_io.specs.Files.{TreeLimit, ManyFiles, LargeFile, LargeTree}

-- a tree's answer, handed on
abbrev pub load_fault : TreeFail → LoadFault
load_fault tree.Failed = load.Tree
load_fault tree.OutOfMemory = load.OutOfMemory

-- the limit of which a fault tells
abbrev pub limit_of : LoadFault → Option TreeLimit
limit_of load.Tree = None
limit_of load.TooManyFiles = Some ManyFiles
limit_of (load.TooLarge path) = Some (LargeFile (string_bytes path))
limit_of load.TreeTooLarge = Some LargeTree
limit_of load.OutOfMemory = None
