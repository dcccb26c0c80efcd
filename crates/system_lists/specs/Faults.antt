-- What is wrong with a list or a manifest whose text is no document.
use Rattle.system_lists.specs.declared.document.DocumentFault.{DocumentFault}
use Rattle.system_lists.specs.declared.document.DocumentFault.TheVariants as document
use Rattle.system_lists.specs.declared.fault.CachedFault.{CachedFault}
use Rattle.system_lists.specs.declared.fault.CachedFault.TheVariants as cached
use Rattle.system_lists.specs.declared.fault.ManifestFault.{ManifestFault}
use Rattle.system_lists.specs.declared.fault.ManifestFault.TheVariants as manifest

abbrev pub cached_fault : DocumentFault → CachedFault
cached_fault document.Json = cached.Json
cached_fault document.Version = cached.Version
cached_fault document.NoMemory = cached.NoMemory

abbrev pub manifest_fault : DocumentFault → ManifestFault
manifest_fault document.Json = manifest.Json
manifest_fault document.Version = manifest.Version
manifest_fault document.NoMemory = manifest.NoMemory
