-- What is found of a file is seen as the model's.
use Rattle.store_model.specs.Files.{Found}
use Rattle.store_model.specs.Files.Found.{NotOpen, NoSuchFile, Inner, Outer}
use Rattle.plain_state.specs.declared.files.FileAt.{FileAt}
use Rattle.plain_state.specs.declared.files.FileAt.TheVariants as files

abbrev pub found_as : FileAt → Found
found_as files.NotOpen = NotOpen
found_as files.NoSuchFile = NoSuchFile
found_as (files.Inner bytes) = Inner bytes.now
found_as (files.Outer root) = Outer root
