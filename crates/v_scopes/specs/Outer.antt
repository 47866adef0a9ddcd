-- The scopes around the innermost, in a stack.
use Rattle.std.specs.Prelude.{List, map, reverse}
use Rattle.v_hierarchy.specs.declared.frame.Frame.{Frame}
use Rattle.v_hierarchy.specs.Frames.{names_of}
use Rattle.v_hierarchy.specs.Names.{Entry}

-- the scopes of a stack of frames, the last of which is the innermost
abbrev pub around : List Frame → List (List Entry)
around frames = map names_of (reverse frames)
