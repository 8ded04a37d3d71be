pub mod CutFolders
pub mod FilesByName
pub mod Folders
pub mod Streams
