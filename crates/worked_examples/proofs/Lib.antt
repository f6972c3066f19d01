mod Lives
mod Hollow
